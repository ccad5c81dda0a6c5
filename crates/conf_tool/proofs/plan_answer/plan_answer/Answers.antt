use Rattle.std.proofs.Common.{◌≡◌, ◌∙◌, ◌++◌, List, ap, false, refl, subst, sym, true}
use Rattle.std.proofs.lemmas.Bool.{true_from_ne_false}
use Rattle.std.proofs.lemmas.Iterator.Adapters.{option_map_id}
use Rattle.std.specs.Prelude.{Ok, Err, OnOk, codes}
use Rattle.conf_change.specs.Configuration.{has_voter}
use Rattle.conf_change.specs.declared.step.Step.{Step}
use Rattle.conf_plan.specs.PathBy.{has_path, ids_down, path_by}
use Rattle.conf_tool.specs.PlanAnswer.{path_between, reply_text, session_with}
use Rattle.conf_tool.specs.Pairs.{Pair, pair_between}
use Rattle.conf_tool.specs.declared.plan_options.PlanOptions.{PlanOptions}
use Rattle.conf_tool.proofs.plan_answer.plan_answer.Goals as goal

no_now : (options : PlanOptions) (pair : Pair) → has_voter pair.current ≡ false → path_between options pair ≡ Err (codes "the current configuration has no voter")
no_now options pair none = simp none refl

no_target : (options : PlanOptions) (pair : Pair) → has_voter pair.current ≡ true → has_voter pair.target ≡ false → path_between options pair ≡ Err (codes "the target has no voter")
no_target options pair some none = simp (some, none) refl

joint : (options : PlanOptions) (pair : Pair) → has_voter pair.current ≡ true → has_voter pair.target ≡ true → has_path pair.strategy pair.current pair.target ≡ false → path_between options pair ≡ Err (codes "the target is joint")
joint options pair some there none = simp (some, there, none) refl

pub returns-in-Err-NoVoterNow-clause-text : goal.returns-in-Err-NoVoterNow-clause-text
returns-in-Err-NoVoterNow-clause-text c =
    let options = c.args.options.now in
    let why = (c.plan_by.ensures.no_voter_now).0 (c.in-Err-NoVoterNow.is ∙ ap Err c.in-Err-NoVoterNow.field-0-is) in
    subst (λ path. OnOk c.no_plan.result (c.no_plan.new.text.items ≡ c.args.text.now.items ++ reply_text options c.args.session.now c.args.number c.args.current.now.config path)) (sym (no_now options (pair_between c.args.current.now c.args.target.now) why)) c.no_plan.ensures.text

pub returns-in-Err-NoVoterTarget-clause-text : goal.returns-in-Err-NoVoterTarget-clause-text
returns-in-Err-NoVoterTarget-clause-text c =
    let options = c.args.options.now in
    let why = (c.plan_by.ensures.no_voter_target).0 (c.in-Err-NoVoterTarget.is ∙ ap Err c.in-Err-NoVoterTarget.field-0-is) in
    subst (λ path. OnOk c.no_plan-in-Err-NoVoterTarget.result (c.no_plan-in-Err-NoVoterTarget.new.text.items ≡ c.args.text.now.items ++ reply_text options c.args.session.now c.args.number c.args.current.now.config path))
    (sym (no_target options (pair_between c.args.current.now c.args.target.now) why.0 why.1)) c.no_plan-in-Err-NoVoterTarget.ensures.text

pub returns-in-Err-JointTarget-clause-text : goal.returns-in-Err-JointTarget-clause-text
returns-in-Err-JointTarget-clause-text c =
    let options = c.args.options.now in
    let why = (c.plan_by.ensures.joint_target).0 (c.in-Err-JointTarget.is ∙ ap Err c.in-Err-JointTarget.field-0-is) in
    subst (λ path. OnOk c.no_plan-in-Err-JointTarget.result (c.no_plan-in-Err-JointTarget.new.text.items ≡ c.args.text.now.items ++ reply_text options c.args.session.now c.args.number c.args.current.now.config path))
    (sym (joint options (pair_between c.args.current.now c.args.target.now) why.0 why.1 why.2)) c.no_plan-in-Err-JointTarget.ensures.text

-- there is a path, by its strategy
found : (options : PlanOptions) (pair : Pair) (steps : List Step) → has_voter pair.current ≡ true → has_voter pair.target ≡ true → has_path pair.strategy pair.current pair.target ≡ true
    → steps ≡ path_by pair.strategy (ids_down options.down) pair.current pair.target → path_between options pair ≡ Ok steps
found options pair steps some there way is = simp (some, there, way) (ap Ok (sym is))

pub returns-in-Ok-clause-session : goal.returns-in-Ok-clause-session
returns-in-Ok-clause-session c =
    let options = c.args.options.now in
    let pair = pair_between c.args.current.now c.args.target.now in
    let some = true_from_ne_false _ (λ e. let refused = c.plan_by.ensures.no_voter_now.1 e in cc) in
    let there = true_from_ne_false _ (λ e. let refused = c.plan_by.ensures.no_voter_target.1 (some, e) in cc) in
    let way = true_from_ne_false _ (λ e. let refused = c.plan_by.ensures.joint_target.1 (some, there, e) in cc) in
    let is = c.in-Ok.ensures.path ∙ ap (λ down. path_by pair.strategy (ids_down down) pair.current pair.target) (option_map_id _ ∙ c.as_ref-down.ensures.value) in
    subst (λ path. OnOk c.path_answer.result (c.path_answer.new.session ≡ session_with options c.args.session.now pair.current path)) (sym (found options pair c.in-Ok.path some there way is)) c.path_answer.ensures.session
