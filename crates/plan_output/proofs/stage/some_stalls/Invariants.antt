use Rattle.std.proofs.Common.{◌≡◌, false, take}
use Rattle.plan_output.specs.Stages as spec
use Rattle.plan_output.proofs.stage.some_stalls.Given as goal

abbrev pub invariant-loop-stage : goal.invariant-loop-stage
invariant-loop-stage l = spec.some_stalls (take l.stage-index l.stages) l.down ≡ false
