use Rattle.std.proofs.Common.{◌≡◌, true, false, sym, ap, ◌∙◌}
use Rattle.std.specs.Prelude.{Ok}
use Rattle.std.proofs.lemmas.Bool.{false_from_ne_true, true_from_ne_false}
use Rattle.conf_change.specs.Configuration.{has_voter}
use Rattle.conf_driver.specs.Next.{IsWellPosed, next_of}
use Rattle.conf_driver.specs.View.{ViewState, lacks_conf_index, lacks_leader_progress}
use Rattle.conf_plan.specs.PathBy.{has_path}
use Rattle.conf_plan.specs.declared.strategy.Strategy.TheVariants.{Shortest}
use Rattle.confscript_c.specs.Actions.{action_numbers}
use Rattle.confscript_c.proofs.ActionFound.{action_result-Ok}
use Rattle.confscript_c.proofs.next.action_with.Goals as goal

pub returns-in_ok-numbers_of_action-in-Ok-clause-numbers : goal.returns-in_ok-numbers_of_action-in-Ok-clause-numbers
returns-in_ok-numbers_of_action-in-Ok-clause-numbers c =
    let request = c.args.request.now in
    let target = c.args.target.now in
    let view = c.args.view.now in
    let down = c.args.down.now in
    let made = c.in-Ok.is in
    let other : ¬ (request.strategy ≡ Shortest) = λ e. let refused = c.next.ensures.shortest.1 e in cc in
    let stays : target.auto_leave ≡ false = false_from_ne_true _ (λ e. let refused = c.next.ensures.auto_leave_target.1 (other, e) in cc) in
    let indexed : lacks_conf_index view ≡ false = false_from_ne_true _ (λ e. let refused = c.next.ensures.no_conf_index.1 (other, stays, e) in cc) in
    let known : lacks_leader_progress view ≡ false = false_from_ne_true _ (λ e. let refused = c.next.ensures.no_leader_progress.1 (other, stays, indexed, e) in cc) in
    let posed : IsWellPosed request.strategy target view = (other, stays, indexed, known) in
    let voter : has_voter view.conf_state ≡ true = true_from_ne_false _ (λ e. let refused = c.next.ensures.no_voter_now.1 (posed, e) in cc) in
    let voter_target : has_voter target ≡ true = true_from_ne_false _ (λ e. let refused = c.next.ensures.no_voter_target.1 (posed, voter, e) in cc) in
    let has : has_path request.strategy view.conf_state target ≡ true = true_from_ne_false _ (λ e. let refused = c.next.ensures.joint_target.1 (posed, voter, voter_target, e) in cc) in
    action_result-Ok request target view posed voter voter_target has
    ∙ ap Ok (sym (c.in_ok-numbers_of_action-in-Ok.ensures ∙ ap (λ (v : ViewState). action_numbers down v.conf_state c.in-Ok.action) c.view.view_is ∙ ap (action_numbers down view.conf_state) c.in-Ok.ensures.answer
    ∙ ap (λ d. action_numbers d view.conf_state (next_of request.strategy target d view)) c.requires.down))
