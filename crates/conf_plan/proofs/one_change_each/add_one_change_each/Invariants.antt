use Rattle.std.specs.Prelude.{flat_map, take}
use Rattle.conf_plan.specs.OneChangeEach.{each_change}
use Rattle.conf_plan.specs.AddedSteps.{IsAdded}
use Rattle.conf_plan.proofs.one_change_each.add_one_change_each.Given as goal

abbrev pub invariant-loop-step : goal.invariant-loop-step
invariant-loop-step l = IsAdded l.fn.steps.items (flat_map each_change (take l.step-index l.of)) l.steps.items
