-- The path from a configuration that is not joint, on which new voters are learners first (Ongaro's dissertation,
-- 4.2.1).
use Rattle.std.specs.Prelude.{not, List, ◌∷◌, if◌then◌else◌}
use Rattle.quorum_sets.specs.Ids.{Ids, ascending, ids_where, is_empty, union}
use Rattle.conf_change.specs.Configuration.{Configuration, is_member}
use Rattle.conf_change.specs.declared.change.Change.{Change}
use Rattle.conf_change.specs.declared.step.Step.{Step}
use Rattle.conf_change.specs.declared.step.Step.TheVariants.{Simple}
use Rattle.conf_plan.specs.Planned.{moves, planned}

-- the voters of the target, incoming or outgoing, that are not members of the configuration: 4 and 5 from (1 2 3) to
-- (3 4 5)
abbrev pub newcomers : Configuration → Configuration → Ids
newcomers c target = ids_where (λ id. not (is_member c id)) (ascending (union target.incoming target.outgoing))

-- the changes that make these ids, which are not members, learners, ascending: l4 l5
abbrev pub learner_changes : Configuration → Ids → List Change
learner_changes c ids = moves c c.incoming (union c.learners ids)

-- the configuration with these learners added
abbrev pub with_learners : Configuration → Ids → Configuration
with_learners c ids = record c { learners = union c.learners ids }

-- the path: one step makes the newcomers learners, if there are any; the plan from there follows
abbrev pub learners_first_from_single : Configuration → Configuration → List Step
learners_first_from_single c target =
    if is_empty (newcomers c target) then planned c target
    else Simple (learner_changes c (newcomers c target)) ∷ planned (with_learners c (newcomers c target)) target
