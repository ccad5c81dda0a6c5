use Rattle.std.proofs.Common.{◌≡◌, ◌++◌, take}
use Rattle.std.specs.Prelude.{flat_map}
use Rattle.conf_plan.specs.PlanText.{line_and_newline}
use Rattle.conf_plan.proofs.text.append_plan.Given as goal

abbrev pub invariant-loop-step : goal.invariant-loop-step
invariant-loop-step l = l.text.items ≡ l.initial.text.items ++ flat_map line_and_newline (take l.step-index l.steps)
