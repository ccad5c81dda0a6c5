-- The plan names each id no more often than any run.
use Rattle.std.proofs.Common.{◌≡◌, ℕ, ◌+◌, ◌≤◌, Bool, true, false, cond, List, [], ◌∷◌, ◌++◌, refl, ap, ◌∙◌, arith, eqb-true, is_some}
use Rattle.std.specs.Prelude.{Option, Some, None, option_map, filter_map, count_by}
use Rattle.std.specs.List.{cons_option}
use Rattle.std.proofs.lemmas.Bool.{cond_both}
use Rattle.std.proofs.lemmas.List.Sums.{sum_by-cons, sum_by-append}
use Rattle.quorum_sets.specs.Ids.{Ids, ascending, no_ids, has, union}
use Rattle.quorum_sets.proofs.Offered.{has-no_ids}
use Rattle.conf_change.specs.Configuration.{Configuration, is_joint}
use Rattle.conf_change.specs.Change.{names}
use Rattle.conf_change.specs.Outcome.{after_leave}
use Rattle.conf_change.specs.Step.{changes_of}
use Rattle.conf_change.specs.declared.change.Change.{Change}
use Rattle.conf_change.specs.declared.change.Kind.{Kind}
use Rattle.conf_change.specs.declared.step.Step.{Step}
use Rattle.conf_change.specs.declared.step.Step.TheVariants.{LeaveJoint}
use Rattle.conf_change.proofs.Offered.{outgoing-none, ValidByMember-from_is_valid}
use Rattle.conf_plan.specs.Best.{times_named, is_any_learner}
use Rattle.conf_plan.specs.Planned.{kind_by, kind_of_move, single_with, moves, single_steps, shared_members, entering_step, planned_from_single, planned}
use Rattle.conf_plan.specs.Run.{IsValidWithVoter, IsRun}
use Rattle.conf_plan.specs.declared.strategy.Strategy.TheVariants.{Shortest}
use Rattle.conf_plan.proofs.PlannedSteps.IntoJoint.{has-shared_members, at_outgoing-is_single}
use Rattle.conf_plan.proofs.FindingMoves.ResultingConfiguration.{IsSingle, IsSingle-no_next, single_with-own}
use Rattle.conf_plan.proofs.FindingMoves.OfEachId.{change_of, has-union}
use Rattle.conf_plan.proofs.Runs.PartOfEachId.{run-same_part}
use Rattle.conf_plan.proofs.FindingMoves.AscendingIds.{times, times-ascending, times-cons}
use Rattle.conf_plan.proofs.Runs.JointEnds.{LeavesFirst-from_IsRun, EntersLast-from_IsRun}
use Rattle.conf_plan.proofs.Runs.Chains.{run-is_valid, IsRun-one}
use Rattle.conf_plan.proofs.PlannedSteps.Shapes.{planned_from_single-of_shapes, path_by-of_shapes}

-- ---- how often steps name an id
named_by : (q : ℕ) (step : Step) (steps : List Step) → times_named q (step ∷ steps) ≡ count_by (names q) (changes_of step) + times_named q steps
named_by q step steps = sum_by-cons (λ s. count_by (names q) (changes_of s)) step steps

named_by_both : (q : ℕ) (xs ys : List Step) → times_named q (xs ++ ys) ≡ times_named q xs + times_named q ys
named_by_both q xs ys = sum_by-append (λ s. count_by (names q) (changes_of s)) xs ys

-- once, where there is something to change
abbrev pub once : Option Kind → ℕ
once None = 0
once (Some _) = 1

-- the list of moves names an id once at most
named_each : (kind_for : ℕ → Option Kind) (ids : List ℕ) (q : ℕ) → count_by (names q) (filter_map (λ id. option_map (change_of id) (kind_for id)) ids) ≤ cond (is_some (kind_for q)) (times q ids) 0
named_each kind_for [] q = grind arith
named_each kind_for (x ∷ ids) q = first (kind_for x) refl _ (named_each kind_for ids q)
  where
    first : (o : Option Kind) → kind_for x ≡ o → (rest : List Change) → count_by (names q) rest ≤ cond (is_some (kind_for q)) (times q ids) 0
        → count_by (names q) (cons_option (option_map (change_of x) o) rest) ≤ cond (is_some (kind_for q)) (times q (x ∷ ids)) 0
    first None is rest few = grind (arith, times-cons q x ids)
    first (Some kind) is rest few = grind (arith, times-cons q x ids, sum_by-cons (λ y. cond (names q y) 1 0) (change_of x kind) rest, eqb-true x q)

pub moves-name_once : (c : Configuration) (voters learners : Ids) (q : ℕ)
    → count_by (names q) (moves c voters learners) ≤ once (kind_by (has voters q) (has learners q) (has c.incoming q) (has c.learners q))
moves-name_once c voters learners q =
    let all = union (union voters learners) (union c.incoming c.learners) in
    grind (arith, named_each (kind_of_move c voters learners) (ascending all) q, times-ascending q all)

-- ---- an id whose part has to change is named
-- once, if the id is an incoming voter, a learner of either kind or neither in the one configuration, and something else in the other
abbrev differing : Configuration → Configuration → ℕ → ℕ
differing c d q = once (kind_by (has d.incoming q) (is_any_learner d q) (has c.incoming q) (is_any_learner c q))

needed_once : (v m i l : Bool) (n : ℕ) → (n ≡ 0 → (v ≡ i) × (m ≡ l)) → once (kind_by v m i l) ≤ n
needed_once v m i l n same = grind arith

named_where_differing : (c d : Configuration) (steps : List Step) (q : ℕ) → IsRun c steps d → differing c d q ≤ times_named q steps
named_where_differing c d steps q run = grind (arith, needed_once, run-same_part)

-- ---- what the steps of the plan name
single_steps-name : (c : Configuration) (voters learners : Ids) (q : ℕ) → IsSingle c → times_named q (single_steps c voters learners) ≤ differing c (single_with voters learners) q
single_steps-name c voters learners q single = grind (arith, moves-name_once, has-no_ids, IsSingle-no_next, cond_both, false, named_by)

entering_step-names : (c target : Configuration) (q : ℕ) → IsSingle c → times_named q (entering_step c target ∷ []) ≤ differing c target q
entering_step-names c target q single =
    let few = moves-name_once c target.incoming (union target.learners target.learners_next) q in
    let is : differing c target q ≡ once (kind_by (has target.incoming q) (has (union target.learners target.learners_next) q) (has c.incoming q) (has c.learners q)) =
    grind (arith, has-union target.learners target.learners_next q, IsSingle-no_next c single q) in
    let named = named_by q (entering_step c target) [] in
    omega arith

-- ---- by way of the target's outgoing voters
-- An outgoing voter of the target is passed on as a voter. Who is none is passed on as a learner, if it is a member of both, or else not at all. No other way is better.
-- no way by another configuration with those voters has less to change
shared-is_nearest : (c d target : Configuration) (q : ℕ) → IsSingle c → IsValidWithVoter d → IsValidWithVoter target → d.incoming ≡ target.outgoing
    → differing c (single_with target.outgoing (shared_members c target)) q + differing (single_with target.outgoing (shared_members c target)) target q
    ≤ differing c d q + differing d target q
shared-is_nearest c d target q single between valid_with_voter voters =
    let of_d = ValidByMember-from_is_valid d between.valid in
    let of_target = ValidByMember-from_is_valid target valid_with_voter.valid in
    grind (
      arith,
      voters,
      outgoing-none c single.single,
      IsSingle-no_next c single q,
      has-no_ids q,
      has-shared_members c target q,
      of_d.learner_incoming q,
      of_d.next_incoming q,
      of_target.next_outgoing q,
    )

inserted-fewest : (c target : Configuration) (other : List Step) (q : ℕ) → IsSingle c → IsValidWithVoter target → is_joint target ≡ true → IsRun c other target
    → times_named q (single_steps c target.outgoing (shared_members c target) ++ entering_step (single_with target.outgoing (shared_members c target)) target ∷ []) ≤ times_named q other
inserted-fewest c target other q single valid_with_voter joint run =
    let reached = single_with target.outgoing (shared_members c target) in
    let entering = entering_step reached target in
    let last = EntersLast-from_IsRun c target other single.single joint run in
    let middle = last.opened.middle in
    let between = run-is_valid c middle last.opened.prefix single.valid_with_voter last.opened.run in
    let ours = named_by_both q (single_steps c target.outgoing (shared_members c target)) (entering ∷ []) in
    let there = single_steps-name c target.outgoing (shared_members c target) q single in
    let in_joint = entering_step-names reached target q (at_outgoing-is_single c target single valid_with_voter joint) in
    let theirs = ap (times_named q) last.opened.whole ∙ named_by_both q last.opened.prefix (last.opened.last ∷ []) in
    let prefix = named_where_differing c middle last.opened.prefix q last.opened.run in
    let end = named_where_differing middle target (last.opened.last ∷ []) q (IsRun-one middle target last.opened.last last.opened.reaches) in
    let nearest = shared-is_nearest c middle target q single between valid_with_voter last.voters in
    omega arith

-- ---- the plan
planned_from_single-fewest : (c target : Configuration) (other : List Step) (q : ℕ) → IsSingle c → IsValidWithVoter target → IsRun c other target
    → times_named q (planned_from_single c target) ≤ times_named q other
planned_from_single-fewest c target other q single valid_with_voter run =
    let needed = named_where_differing c target other q run in
    planned_from_single-of_shapes c target (λ steps. times_named q steps ≤ times_named q other) single valid_with_voter (record {
      nothing = λ same. omega arith;
      apart = λ apart differs.
          let named = single_steps-name c target.incoming target.learners q single in
          let own = ap (λ d. differing c d q) (single_with-own target (record { valid_with_voter = valid_with_voter; single = apart })) in
          omega arith;
      at_once = λ joint same. let named = entering_step-names c target q single in omega arith;
      inserted = λ joint differs. inserted-fewest c target other q single valid_with_voter joint run;
    })

pub planned-fewest : (now target : Configuration) (other : List Step) (q : ℕ) → IsValidWithVoter now → IsValidWithVoter target → IsRun now other target
    → times_named q (planned now target) ≤ times_named q other
planned-fewest now target other q now_valid_with_voter valid_with_voter run =
    path_by-of_shapes Shortest no_ids now target (λ steps. times_named q steps ≤ times_named q other) now_valid_with_voter (λ same. omega arith)
    (λ differs joint single.
    let left = LeavesFirst-from_IsRun now target other joint differs run in
    let ours = named_by q LeaveJoint (planned_from_single (after_leave now) target) in
    let theirs = ap (times_named q) left.whole ∙ named_by q LeaveJoint left.rest in
    let fewer = planned_from_single-fewest (after_leave now) target left.rest q single valid_with_voter left.run in
    omega arith)
    (λ differs single. planned_from_single-fewest now target other q single valid_with_voter run)
