-- The array of a plan beside its JSON lines: both are of the same path, and each is refused where the other is.
use Rattle.std.proofs.Common.{◌≡◌, ℕ, Bool, true, false, cond, List, refl, sym, ap, subst, ◌∙◌}
use Rattle.std.specs.Prelude.{Option, Some, None, Result, Ok, Err}
use Rattle.quorum_sets.specs.Ids.{Ids}
use Rattle.conf_change.specs.Configuration.{Configuration, has_voter}
use Rattle.conf_change.specs.declared.step.Step.{Step}
use Rattle.conf_plan.specs.PathBy.{has_path, ids_down, path_by}
use Rattle.conf_plan.specs.declared.strategy.Strategy.{Strategy}
use Rattle.plan_output.specs.Json.{json_text}
use Rattle.plan_input.specs.Nonmember.{first_nonmember}
use Rattle.confscript_c.specs.Answer.{status_answer}
use Rattle.confscript_c.specs.Numbers.{valid_configuration_of}
use Rattle.confscript_c.specs.Paths.{path_result, unless_nonmember}
use Rattle.confscript_c.specs.Planning.{plan_result, result_for}
use Rattle.confscript_c.specs.PlanTexts.{current_or_answer, paired, target_or_answer, with_target}
use Rattle.confscript_c.specs.Request.{down_in, request_in, request_of, strategy_at, text_request_in, text_request_of}
use Rattle.confscript_c.specs.Stages.{AreOfOnePath, stages_array, stages_for, stages_result}
use Rattle.confscript_c.specs.declared.answer.Answer.{Answer}
use Rattle.plan_output.specs.declared.output.Output.TheVariants.{Json}
use Rattle.confscript_c.specs.declared.status.Status.TheVariants.{NoVoter, JointTarget}

-- by whether there are voters and a path
of_path : (given : List ℕ) (down : Option Ids) (now : Configuration) (steps : List Step) (first second has : Bool) → down_in given ≡ Ok down
    → AreOfOnePath given now
    (cond first (cond second (cond has (Ok (json_text 1 now steps down)) (Err (status_answer JointTarget 0))) (Err (status_answer NoVoter 2))) (Err (status_answer NoVoter 1)))
    (cond first (cond second (cond has (Ok (stages_array down now steps)) (Err (status_answer JointTarget 0))) (Err (status_answer NoVoter 2))) (Err (status_answer NoVoter 1)))
of_path given down now steps true true true is = (down, steps, is, refl, refl)
of_path given down now steps true true false is = refl
of_path given down now steps true false has is = refl
of_path given down now steps false second has is = refl

-- by the id that is down and not a member
of_nonmember : (given : List ℕ) (down : Option Ids) (strategy : Strategy) (now target : Configuration) (id : Option ℕ) → down_in given ≡ Ok down
    → AreOfOnePath given now (unless_nonmember id (path_result (record { strategy = strategy; down = down }) now target (λ steps. json_text 1 now steps down)))
    (unless_nonmember id (path_result (record { strategy = strategy; down = down }) now target (stages_array down now)))
of_nonmember given down strategy now target None is =
    of_path given down now (path_by strategy (ids_down down) now target) (has_voter now) (has_voter target) (has_path strategy now target) is
of_nonmember given down strategy now target (Some id) is = refl

-- by the request
of_request : (given : List ℕ) (now target : Configuration) (strategy : Result Strategy Answer) (down : Result (Option Ids) Answer) → down_in given ≡ down
    → AreOfOnePath given now (result_for (text_request_of strategy (Ok Json) down) (Ok (now, target))) (stages_for (request_of strategy down) (Ok now) (Ok target))
of_request given now target (Err why) down is = refl
of_request given now target (Ok strategy) (Err why) is = refl
of_request given now target (Ok strategy) (Ok down) is = of_nonmember given down strategy now target (first_nonmember down now target) is

pub AreOfOnePath-results : (now_text target_text now_array target_array given : List ℕ) (strategy : ℕ) (now target : Configuration)
    → current_or_answer now_text ≡ Ok now → target_or_answer now target_text ≡ Ok target
    → valid_configuration_of now_array ≡ Ok now → valid_configuration_of target_array ≡ Ok target
    → AreOfOnePath given now (plan_result strategy 2 given now_text target_text) (stages_result now_array target_array strategy given)
AreOfOnePath-results now_text target_text now_array target_array given strategy now target reads_now reads_target begins ends =
    let texts = ap (with_target target_text) reads_now ∙ ap (paired now) reads_target in
    subst (λ r. AreOfOnePath given now r (stages_result now_array target_array strategy given)) (ap (result_for (text_request_in strategy 2 given)) (sym texts))
    (subst (AreOfOnePath given now (result_for (text_request_in strategy 2 given) (Ok (now, target))))
    (λ k. stages_for (request_in strategy given) (sym begins k) (sym ends k))
    (of_request given now target (strategy_at strategy) (down_in given) refl))
