-- The plan from the configuration of one text to that of another, by a strategy, as one of the program's outputs.
use Rattle.std.specs.Prelude.{◌≡◌, ℕ, List, Result, Ok, Err}
use Rattle.conf_change.specs.Configuration.{Configuration}
use Rattle.conf_change.specs.ConfState.{lists_of}
use Rattle.conf_change.specs.ConfStateLine.{conf_state_text}
use Rattle.conf_change.specs.Violation.{configuration_in}
use Rattle.conf_change.specs.declared.step.Step.{Step}
use Rattle.conf_plan.specs.PathBy.{ids_down, KeepsPromises}
use Rattle.conf_plan.specs.PlanText.{plan_text}
use Rattle.plan_output.specs.Output.{text_as}
use Rattle.plan_output.specs.declared.output.Output.{Output}
use Rattle.plan_output.specs.declared.output.Output.TheVariants.{Steps}
use Rattle.confscript_c.specs.Applied.{apply_result, steps_result}
use Rattle.confscript_c.specs.Paths.{members_path_result}
use Rattle.confscript_c.specs.PlanTexts.{current_or_answer, target_or_answer, pair_in}
use Rattle.confscript_c.specs.Request.{text_request_in}
use Rattle.confscript_c.specs.Written.{OutResult}
use Rattle.confscript_c.specs.declared.answer.Answer.{Answer}
use Rattle.confscript_c.specs.declared.request.Request.{Request}

-- the result for a request with an output and two configurations; an error of the request comes first, and then one of
-- a text
abbrev pub result_for : Result (Request × Output) Answer → Result (Configuration × Configuration) Answer → OutResult
result_for (Err why) pair = Err why
result_for (Ok asked) (Err why) = Err why
result_for (Ok asked) (Ok pair) =
    members_path_result asked.0 pair.0 pair.1 (text_as asked.1 1 asked.0.down pair.0)

-- the result of `confscript_plan` for the codes of a strategy and an output, a list of ids that are down, and two texts
abbrev pub plan_result : ℕ → ℕ → List ℕ → List ℕ → List ℕ → OutResult
plan_result strategy output down now target = result_for (text_request_in strategy output down) (pair_in now target)

-- The text is that of steps that lead from one configuration to the other and keep what the strategy promises. If it is
-- written as steps, one call of `confscript_apply` applies them to each line of the first configuration.
pub record IsPathText (request : Request) (output : Output) (now target : Configuration) (text : List ℕ) : Type 0 where
  pub steps : List Step
  pub printed : text ≡ text_as output 1 request.down now steps
  pub promises : KeepsPromises request.strategy (ids_down request.down) now steps target
  pub taken : steps_result 1 now steps ≡ Ok (conf_state_text (lists_of target))
  pub in_one_call : output ≡ Steps → (line : List ℕ) → configuration_in line ≡ Ok now
      → apply_result line (plan_text steps) ≡ Ok (conf_state_text (lists_of target))

-- The text of a call with these arguments is that of steps from the configuration of the first text to the target.
pub record LeadsToTarget (strategy output : ℕ) (down now target text : List ℕ) : Type 0 where
  pub request : Request
  pub written_as : Output
  pub before : Configuration
  pub after : Configuration
  pub asked : text_request_in strategy output down ≡ Ok (request, written_as)
  pub begins : current_or_answer now ≡ Ok before
  pub ends : target_or_answer before target ≡ Ok after
  pub leads : IsPathText request written_as before after text
