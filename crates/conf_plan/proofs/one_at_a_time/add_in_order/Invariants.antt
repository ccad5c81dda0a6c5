use Rattle.std.specs.Prelude.{flat_map, take}
use Rattle.conf_plan.specs.OneAtATime.{steps_of}
use Rattle.conf_plan.specs.AddedSteps.{IsAdded}
use Rattle.conf_plan.proofs.one_at_a_time.add_in_order.Given as goal

abbrev pub invariant-loop-id : goal.invariant-loop-id
invariant-loop-id g l =
    IsAdded l.fn.steps.items (flat_map (steps_of l.start l.target) (take l.id-index l.id-items)) l.steps.items
