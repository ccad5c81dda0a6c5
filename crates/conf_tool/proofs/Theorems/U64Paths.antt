-- That the ids of a path are numbers of 64 bits, since it names only ids of its ends.
use Rattle.std.proofs.Common.{ℕ, ◌<◌, ◌^◌, Bool, not, ◌&&◌, ◌||◌, List, [], ◌∷◌}
use Rattle.std.specs.Prelude.{Option, Some, None, option_map, flat_map, if◌then◌else◌}
use Rattle.std.specs.List.{All, cons_option}
use Rattle.std.proofs.lemmas.List.Elements.{All-nil, All-cons, All-head, All-tail, All-append}
use Rattle.quorum_sets.specs.Ids.{Ids, has, ascending, ids_where, is_empty, union}
use Rattle.conf_change.specs.Configuration.{Configuration, is_joint, is_same}
use Rattle.conf_change.specs.Outcome.{after_leave}
use Rattle.conf_change.specs.U64Lists.{HasU64Lists}
use Rattle.conf_change.specs.declared.change.Kind.{Kind}
use Rattle.conf_change.specs.declared.change.Kind.TheVariants.{Learner}
use Rattle.conf_change.specs.declared.step.Step.TheVariants.{Simple, LeaveJoint}
use Rattle.conf_plan.specs.LearnersFirst.{learner_changes, learners_first_from_single, newcomers, with_learners}
use Rattle.conf_plan.specs.OneAtATime.{down_in_order, in_turn, joining, leaving_learners, new_learners, one_change, order, retiring, steps_of}
use Rattle.conf_plan.specs.PathBy.{from_single_by, path_by}
use Rattle.conf_plan.specs.Planned.{kind_of_move, planned}
use Rattle.conf_plan.specs.PlanSteps.{HasU64Ids}
use Rattle.conf_plan.specs.declared.strategy.Strategy.{Strategy}
use Rattle.conf_plan.specs.declared.strategy.Strategy.TheVariants.{Shortest, LearnersFirst, OneAtATime}
use Rattle.conf_session.proofs.Offered.{IsU64, after_leave-u64, either-u64, leave-u64, moves-u64, planned-u64, planned_from_single-u64, union-u64, where-u64}

-- ---- learners first
learners_first-u64 : (c target : Configuration) → HasU64Lists c → HasU64Lists target → All HasU64Ids (learners_first_from_single c target)
learners_first-u64 c target small there =
    let ids = newcomers c target in
    let learners = union-u64 c.learners ids small.learners
    (where-u64 _ (ascending (union target.incoming target.outgoing)) (union-u64 target.incoming target.outgoing there.incoming there.outgoing)) in
    let added : HasU64Lists (with_learners c ids) = record { incoming = small.incoming; outgoing = small.outgoing; learners = learners; learners_next = small.learners_next } in
    either-u64 (is_empty ids) (planned c target) (Simple (learner_changes c ids) ∷ planned (with_learners c ids) target) (planned-u64 c target small there)
    (All-cons HasU64Ids (Simple (learner_changes c ids)) (planned (with_learners c ids) target) (moves-u64 c c.incoming (union c.learners ids) small small.incoming learners)
    (planned-u64 (with_learners c ids) target added there))

-- ---- one at a time
one_change-u64 : (kind : Kind) (id : ℕ) → IsU64 id → HasU64Ids (one_change kind id)
one_change-u64 kind id is = All-cons (λ change. change.id < 2 ^ 64) (record { kind = kind; id = id }) [] is (All-nil (λ change. change.id < 2 ^ 64))

steps_of-u64 : (c target : Configuration) (id : ℕ) → IsU64 id → All HasU64Ids (steps_of c target id)
steps_of-u64 c target id is =
    All-append HasU64Ids (if has target.incoming id && not (has c.incoming id || has c.learners id) then one_change Learner id ∷ [] else [])
    (cons_option (option_map (λ kind. one_change kind id) (kind_of_move c target.incoming target.learners id)) [])
    (either-u64 (has target.incoming id && not (has c.incoming id || has c.learners id)) (one_change Learner id ∷ []) [] (alone Learner) (All-nil HasU64Ids))
    (by_kind (kind_of_move c target.incoming target.learners id))
  where
    alone : (kind : Kind) → All HasU64Ids (one_change kind id ∷ [])
    alone kind = All-cons HasU64Ids (one_change kind id) [] (one_change-u64 kind id is) (All-nil HasU64Ids)

    by_kind : (kind : Option Kind) → All HasU64Ids (cons_option (option_map (λ kind. one_change kind id) kind) [])
    by_kind None = All-nil HasU64Ids
    by_kind (Some kind) = alone kind

of_each-u64 : (c target : Configuration) (ids : List ℕ) → All IsU64 ids → All HasU64Ids (flat_map (steps_of c target) ids)
of_each-u64 c target [] small = All-nil HasU64Ids
of_each-u64 c target (id ∷ ids) small =
    All-append HasU64Ids (steps_of c target id) (flat_map (steps_of c target) ids) (steps_of-u64 c target id (All-head IsU64 id ids small)) (of_each-u64 c target ids (All-tail IsU64 id ids small))

in_turn-u64 : (joins retires : List ℕ) → All IsU64 joins → All IsU64 retires → All IsU64 (in_turn joins retires)
in_turn-u64 [] retires first second = second
in_turn-u64 (id ∷ joins) [] first second = first
in_turn-u64 (id ∷ joins) (other ∷ retires) first second =
    All-cons IsU64 id (other ∷ in_turn joins retires) (All-head IsU64 id joins first)
    (All-cons IsU64 other (in_turn joins retires) (All-head IsU64 other retires second) (in_turn-u64 joins retires (All-tail IsU64 id joins first) (All-tail IsU64 other retires second)))

order-u64 : (down : Ids) (c target : Configuration) → HasU64Lists c → HasU64Lists target → All IsU64 (order down c target)
order-u64 down c target small there =
    let up : ℕ → Bool = λ id. not (has down id) in
    All-append IsU64 (retiring (has down) c target) _ (retiring-u64 (has down))
    (All-append IsU64 (leaving_learners c target) _ (where-u64 _ (ascending c.learners) small.learners)
    (All-append IsU64 (in_turn (joining up c target) (retiring up c target)) _ (in_turn-u64 (joining up c target) (retiring up c target) (joining-u64 up) (retiring-u64 up))
    (All-append IsU64 (joining (has down) c target) (new_learners c target) (joining-u64 (has down)) (where-u64 _ (ascending target.learners) there.learners))))
  where
    retiring-u64 : (passes : ℕ → Bool) → All IsU64 (retiring passes c target)
    retiring-u64 passes = where-u64 _ (ascending c.incoming) small.incoming

    joining-u64 : (passes : ℕ → Bool) → All IsU64 (joining passes c target)
    joining-u64 passes =
        let ids = ascending (ids_where (λ id. not (has c.incoming id) && passes id) (ascending target.incoming)) in
        let joins = where-u64 (λ id. not (has c.incoming id) && passes id) (ascending target.incoming) there.incoming in
        All-append IsU64 (ascending (ids_where (has c.learners) ids)) (ascending (ids_where (λ id. not (has c.learners id)) ids)) (where-u64 _ ids joins) (where-u64 _ ids joins)

-- ---- each strategy
from_single-u64 : (strategy : Strategy) (down : Ids) (c target : Configuration) → HasU64Lists c → HasU64Lists target → All HasU64Ids (from_single_by strategy down c target)
from_single-u64 Shortest down c target small there = planned_from_single-u64 c target small there
from_single-u64 LearnersFirst down c target small there = learners_first-u64 c target small there
from_single-u64 OneAtATime down c target small there =
    let first = down_in_order down c target in
    of_each-u64 c target (order first c target) (order-u64 first c target small there)

pub path_by-u64 : (strategy : Strategy) (down : Ids) (now target : Configuration) → HasU64Lists now → HasU64Lists target → All HasU64Ids (path_by strategy down now target)
path_by-u64 strategy down now target small there =
    let left = from_single_by strategy down (after_leave now) target in
    let single = from_single_by strategy down now target in
    either-u64 (is_same now target) [] (if is_joint now then LeaveJoint ∷ left else single) (All-nil HasU64Ids)
    (either-u64 (is_joint now) (LeaveJoint ∷ left) single
    (All-cons HasU64Ids LeaveJoint left leave-u64 (from_single-u64 strategy down (after_leave now) target (after_leave-u64 now small) there))
    (from_single-u64 strategy down now target small there))
