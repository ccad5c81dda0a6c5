use Rattle.std.proofs.Common.{◌≡◌, ◌++◌, take}
use Rattle.std.specs.Prelude.{flat_map}
use Rattle.conf_plan.specs.PlanText.{spaced_change}
use Rattle.conf_plan.proofs.text.append_changes.Given as goal

abbrev pub invariant-loop-change : goal.invariant-loop-change
invariant-loop-change l = l.text.items ≡ l.initial.text.items ++ flat_map spaced_change (take l.change-index l.changes)
