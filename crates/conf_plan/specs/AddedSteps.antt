-- Steps that are added to a path.
use Rattle.std.specs.Prelude.{◌≡◌, List, ◌++◌}
use Rattle.std.specs.List.{All}
use Rattle.conf_change.specs.declared.step.Step.{Step}
use Rattle.conf_plan.specs.PlanSteps.{HasU64Ids}

-- these steps are appended; their ids are numbers of 64 bits
pub record IsAdded (before more after : List Step) : Type 0 where
  pub whole : after ≡ before ++ more
  pub u64_ids : All HasU64Ids more
