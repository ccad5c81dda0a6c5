-- The path from a configuration that is not joint, on which one member changes at a time, as etcd's server changes its
-- members (section 4.1 of Ongaro's dissertation). A server adds no member while a voter cannot be reached, so voters
-- that are down leave first; and it takes one learner at a time, so learners leave or are promoted before others come
-- (own).
use Rattle.std.specs.Prelude.{ℕ, Bool, not, ◌&&◌, ◌||◌, List, [], ◌∷◌, ◌++◌, flat_map, option_map, if◌then◌else◌}
use Rattle.std.specs.List.{cons_option}
use Rattle.quorum_sets.specs.Ids.{Ids, no_ids, has, ascending, ids_where}
use Rattle.quorum_sets.specs.Tolerance.{commits_without}
use Rattle.conf_change.specs.Configuration.{Configuration, voters_of}
use Rattle.conf_change.specs.declared.change.Kind.{Kind}
use Rattle.conf_change.specs.declared.change.Kind.TheVariants.{Learner}
use Rattle.conf_change.specs.declared.step.Step.{Step}
use Rattle.conf_change.specs.declared.step.Step.TheVariants.{Simple}
use Rattle.conf_plan.specs.Planned.{kind_of_move}

-- ---- the steps of an id
-- a simple step of one change, such as simple v4
abbrev pub one_change : Kind → ℕ → Step
one_change kind id = Simple (record { kind = kind; id = id } ∷ [])

-- the steps by which an id gets its role in the target, none to two; one that becomes a voter and is not a member is a
-- learner first
abbrev pub steps_of : Configuration → Configuration → ℕ → List Step
steps_of c target id =
    (if has target.incoming id && not (has c.incoming id || has c.learners id) then one_change Learner id ∷ [] else [])
    ++ cons_option (option_map (λ kind. one_change kind id) (kind_of_move c target.incoming target.learners id)) []

-- ---- the order of the ids
-- the learners among some ids and then the others, each part ascending
abbrev pub learners_first : Ids → List ℕ → List ℕ
learners_first learners ids = ascending (ids_where (has learners) ids) ++ ascending (ids_where (λ id. not (has learners id)) ids)

-- the ids that have to become incoming voters, of those that pass a test; learners come first, since etcd's server takes
-- one learner at a time
abbrev pub joining : (ℕ → Bool) → Configuration → Configuration → List ℕ
joining passes c target =
    learners_first c.learners (ascending (ids_where (λ id. not (has c.incoming id) && passes id) (ascending target.incoming)))

-- the ids that have to stop being incoming voters, of those that pass a test, ascending
abbrev pub retiring : (ℕ → Bool) → Configuration → Configuration → List ℕ
retiring passes c target = ascending (ids_where (λ id. not (has target.incoming id) && passes id) (ascending c.incoming))

-- the learners that are neither voters nor learners of the target, ascending
abbrev pub leaving_learners : Configuration → Configuration → List ℕ
leaving_learners c target =
    ascending (ids_where (λ id. not (has c.incoming id || has target.incoming id || has target.learners id)) (ascending c.learners))

-- the learners of the target that are neither voters nor learners before, ascending
abbrev pub new_learners : Configuration → Configuration → List ℕ
new_learners c target =
    ascending (ids_where (λ id. not (has c.incoming id || has target.incoming id || has c.learners id)) (ascending target.learners))

-- the ids of two lists in turn; when one list ends, the rest of the other follows
abbrev pub in_turn : List ℕ → List ℕ → List ℕ
in_turn [] retires = retires
in_turn (id ∷ joins) [] = id ∷ joins
in_turn (id ∷ joins) (other ∷ retires) = id ∷ other ∷ in_turn joins retires

-- the order: voters that are down retire, learners leave, the others join and retire in turn, those that are down join,
-- and new learners follow
abbrev pub order : Ids → Configuration → Configuration → List ℕ
order down c target =
    let up : ℕ → Bool = λ id. not (has down id) in
    retiring (has down) c target
    ++ (leaving_learners c target
    ++ (in_turn (joining up c target) (retiring up c target) ++ (joining (has down) c target ++ new_learners c target)))

-- the ids that are down, if both configurations commit without them; none otherwise, since then no order helps
abbrev pub down_in_order : Ids → Configuration → Configuration → Ids
down_in_order down c target =
    if commits_without (voters_of c) down && commits_without (voters_of target) down then down else no_ids

-- ---- the path
-- the steps of each id in this order: l4 v4 r1 l5 v5 r2 leads from (1 2 3) to (3 4 5), and r1 l4 v4 l5 v5 r2 if 1 is down
abbrev pub one_at_a_time_from_single : Ids → Configuration → Configuration → List Step
one_at_a_time_from_single down c target = flat_map (steps_of c target) (order (down_in_order down c target) c target)
