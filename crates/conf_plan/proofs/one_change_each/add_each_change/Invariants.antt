use Rattle.std.specs.Prelude.{[], ◌∷◌, map, take}
use Rattle.conf_change.specs.declared.change.Change.{Change}
use Rattle.conf_change.specs.declared.step.Step.TheVariants.{Simple}
use Rattle.conf_plan.specs.AddedSteps.{IsAdded}
use Rattle.conf_plan.proofs.one_change_each.add_each_change.Given as goal

abbrev pub invariant-loop-change : goal.invariant-loop-change
invariant-loop-change l = IsAdded l.fn.steps.items (map (λ (change : Change). Simple (change ∷ [])) (take l.change-index l.change-items)) l.steps.items
