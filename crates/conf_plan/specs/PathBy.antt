-- The path from one configuration to another by each strategy (own).
use Rattle.std.specs.Prelude.{Bool, true, not, ◌||◌, List, [], ◌∷◌, Option, Some, None, if◌then◌else◌}
use Rattle.quorum_sets.specs.Ids.{Ids, no_ids}
use Rattle.conf_change.specs.Configuration.{Configuration, is_joint, is_same}
use Rattle.conf_change.specs.Outcome.{after_leave}
use Rattle.conf_change.specs.declared.step.Step.{Step}
use Rattle.conf_change.specs.declared.step.Step.TheVariants.{LeaveJoint}
use Rattle.conf_plan.specs.OnTheWay.{ShortestPromises, LearnersFirstPromises, OneAtATimePromises}
use Rattle.conf_plan.specs.LearnersFirst.{learners_first_from_single}
use Rattle.conf_plan.specs.OneAtATime.{one_at_a_time_from_single}
use Rattle.conf_plan.specs.Planned.{planned_from_single}
use Rattle.conf_plan.specs.declared.strategy.Strategy.{Strategy}
use Rattle.conf_plan.specs.declared.strategy.Strategy.TheVariants.{Shortest, LearnersFirst, OneAtATime}

-- the ids that are down: none if none are given
abbrev pub ids_down : Option Ids → Ids
ids_down None = no_ids
ids_down (Some down) = down

-- the path from a configuration that is not joint, by a strategy; the ids that are down matter to OneAtATime alone
abbrev pub from_single_by : Strategy → Ids → Configuration → Configuration → List Step
from_single_by Shortest down = planned_from_single
from_single_by LearnersFirst down = learners_first_from_single
from_single_by OneAtATime down = one_at_a_time_from_single down

-- the path from any configuration, by a strategy, while these ids are down: a joint one is left first
abbrev pub path_by : Strategy → Ids → Configuration → Configuration → List Step
path_by strategy down now target =
    if is_same now target then []
    else (if is_joint now then LeaveJoint ∷ from_single_by strategy down (after_leave now) target else from_single_by strategy down now target)

-- whether the strategy has a path between configurations with voters: OneAtATime does not enter a joint configuration
abbrev pub has_path : Strategy → Configuration → Configuration → Bool
has_path Shortest now target = true
has_path LearnersFirst now target = true
has_path OneAtATime now target = is_same now target || not (is_joint target)

-- what the strategy promises of its path, which is made while these ids are down
abbrev pub KeepsPromises : Strategy → Ids → Configuration → List Step → Configuration → Type 0
KeepsPromises Shortest down = ShortestPromises
KeepsPromises LearnersFirst down = LearnersFirstPromises
KeepsPromises OneAtATime down = OneAtATimePromises down
