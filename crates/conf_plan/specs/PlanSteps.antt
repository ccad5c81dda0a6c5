-- The steps of a plan.
use Rattle.std.specs.Prelude.{◌<◌, ◌≤◌, ◌^◌, List, length}
use Rattle.std.specs.List.{All}
use Rattle.conf_change.specs.declared.step.Step.{Step}
use Rattle.conf_change.specs.Step.{changes_of}

-- the ids of a step are numbers of 64 bits
abbrev pub HasU64Ids : Step → Type 0
HasU64Ids step = All (λ change. change.id < 2 ^ 64) (changes_of step)

-- the steps of a plan are at most four, with ids of 64 bits
pub record IsPlan (steps : List Step) : Type 0 where
  pub at_most_four : length steps ≤ 4
  pub u64_ids : All HasU64Ids steps
