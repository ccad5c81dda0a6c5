use Rattle.std.proofs.Common.{◌≡◌, take}
use Rattle.plan_output.specs.Table as spec
use Rattle.plan_output.proofs.table.ids_on_the_way.Given as goal

abbrev pub invariant-loop-stage : goal.invariant-loop-stage
invariant-loop-stage l = l.ids ≡ spec.ids_on_the_way (take l.stage-index l.stages)
