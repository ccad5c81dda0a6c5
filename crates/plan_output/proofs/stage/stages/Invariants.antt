use Rattle.std.proofs.Common.{◌≡◌, ◌∷◌, ◌++◌, drop}
use Rattle.plan_output.specs.Stages as spec
use Rattle.plan_output.proofs.stage.stages.Given as goal

-- the stages so far, the last one and those after the other steps are all stages
abbrev pub invariant-loop-step : goal.invariant-loop-step
invariant-loop-step l = l.stages.items ++ l.last ∷ spec.stages_after l.last.config (drop l.step-index l.step-items) ≡ spec.stages l.now l.step-items
