-- A set of ids that is a quorum of both ends is a quorum on the whole way of the plan. Then what both ends tolerate is tolerated there, whichever ids are down.
use Rattle.std.proofs.Common.{◌≡◌, ℕ, true, not, ◌⊎◌, inl, inr, List, sym, subst, ◌∙◌, arith}
use Rattle.std.proofs.lemmas.Bool.{and_parts, and_from, or_left, or_right}
use Rattle.quorum_sets.specs.Ids.{Ids, no_ids, has, ascending, ids_where, is_empty, majority_passes, union}
use Rattle.quorum_sets.specs.Tolerance.{commits_without}
use Rattle.quorum_sets.specs.Voters.{is_quorum}
use Rattle.quorum_sets.proofs.Offered.{has-ascending, has-ids_where, has-union, is_quorum-without}
use Rattle.conf_change.specs.Configuration.{Configuration, voters_of}
use Rattle.conf_change.specs.Outcome.{after_leave}
use Rattle.conf_change.specs.declared.step.Step.{Step}
use Rattle.conf_change.proofs.Offered.{is_empty-no_ids}
use Rattle.conf_plan.specs.OnTheWay.{EachOnTheWay, HasQuorumsOf, IsAsTolerant, KeepsQuorums, KeepsTolerance}
use Rattle.conf_plan.specs.Run.{IsValidWithVoter}
use Rattle.conf_plan.specs.Planned.{single_with, planned_from_single, planned}
use Rattle.conf_plan.specs.declared.strategy.Strategy.TheVariants.{Shortest}
use Rattle.conf_plan.proofs.FindingMoves.ResultingConfiguration.{IsSingle}
use Rattle.conf_plan.proofs.PlannedSteps.BetweenSingle.{entered_by}
use Rattle.conf_plan.proofs.PlannedSteps.AlongPath.{planned_from_single-holds, path_by-holds}
use Rattle.conf_plan.proofs.Runs.Chains.{IsRunWith-weaker}

-- ---- voters of whom each quorum of both ends has most
abbrev pub AreCovered : Configuration → Configuration → Ids → Type 0
AreCovered now target voters = (ids : Ids) → is_quorum (voters_of now) ids ≡ true → is_quorum (voters_of target) ids ≡ true → majority_passes (has ids) voters ≡ true

pub AreCovered-now : (now target : Configuration) → AreCovered now target now.incoming
AreCovered-now now target ids of_now of_target = (and_parts _ _ of_now).0

pub HasQuorumsOf-covered : (now target c : Configuration) → AreCovered now target c.incoming → (is_empty c.outgoing ≡ true) ⊎ AreCovered now target c.outgoing → HasQuorumsOf now target c
HasQuorumsOf-covered now target c incoming (inl none) ids of_now of_target = and_from _ _ (incoming ids of_now of_target) (or_left _ _ none)
HasQuorumsOf-covered now target c incoming (inr outgoing) ids of_now of_target = and_from _ _ (incoming ids of_now of_target) (or_right (is_empty c.outgoing) _ (outgoing ids of_now of_target))

pub HasQuorumsOf-single : (now target : Configuration) (voters learners : Ids) → AreCovered now target voters → HasQuorumsOf now target (single_with voters learners)
HasQuorumsOf-single now target voters learners covered = HasQuorumsOf-covered now target (single_with voters learners) covered (inl is_empty-no_ids)

-- ---- along the plan
pub HasQuorumsOf-leaving : (now target : Configuration) → HasQuorumsOf now target (after_leave now)
HasQuorumsOf-leaving now target = HasQuorumsOf-covered now target (after_leave now) (AreCovered-now now target) (inl is_empty-no_ids)

pub planned_from_single-keeps_quorums : (now c target : Configuration) → IsSingle c → IsValidWithVoter target → c.incoming ≡ now.incoming
    → EachOnTheWay (HasQuorumsOf now target) c (planned_from_single c target) target
planned_from_single-keeps_quorums now c target single valid_with_voter same =
    planned_from_single-holds (λ before step after. HasQuorumsOf now target after) (λ voters learners. AreCovered now target voters) c target single valid_with_voter (record {
      apart = λ apart ids of_now of_target. (and_parts _ _ of_target).0;
      outgoing = λ joint ids of_now of_target. grind (arith, joint, of_target);
      simple = λ voters learners covered wanted. HasQuorumsOf-single now target voters learners covered;
      enters = λ voters learners covered moved.
          HasQuorumsOf-covered now target (entered_by c voters learners) (subst (AreCovered now target) (sym moved.incoming) covered) (inr (subst (AreCovered now target) (sym same) (AreCovered-now now target)));
      leaves = λ voters learners covered moved. HasQuorumsOf-single now target voters learners covered;
      into = λ d single_d has_all ids of_now of_target. of_target;
    })

pub planned-keeps_quorums : (now target : Configuration) → IsValidWithVoter now → IsValidWithVoter target → KeepsQuorums now (planned now target) target
planned-keeps_quorums now target now_valid_with_voter valid_with_voter =
    path_by-holds Shortest no_ids (λ before step after. HasQuorumsOf now target after) now target now_valid_with_voter (HasQuorumsOf-leaving now target)
    (λ differs c single same. planned_from_single-keeps_quorums now c target single valid_with_voter same)

-- ---- what is tolerated
-- those of some ids that are not down
abbrev staying : Ids → Ids → Ids
staying all down = ids_where (λ id. not (has down id)) (ascending all)

abbrev voter_ids : Configuration → Ids
voter_ids c = union c.incoming c.outgoing

-- among the ids are all voters of the configuration, so it commits exactly where those that stay are a quorum
staying-commits : (c : Configuration) (all down : Ids) → ((q : ℕ) → has (voter_ids c) q ≡ true → has all q ≡ true) → is_quorum (voters_of c) (staying all down) ≡ commits_without (voters_of c) down
staying-commits c all down among =
    is_quorum-without (voters_of c) down (staying all down) (λ q here.
    grind (arith, has-ids_where (λ id. not (has down id)) (ascending all) q, has-ascending all q, among q, has-union c.incoming c.outgoing q, here))

IsAsTolerant-from_quorums : (down : Ids) (now target c : Configuration) → HasQuorumsOf now target c → IsAsTolerant down now target c
IsAsTolerant-from_quorums down now target c quorums k by_now by_target more few =
    let both = union more down in
    let others = union (voter_ids now) (voter_ids target) in
    let all = union (voter_ids c) others in
    let in_c = λ (q : ℕ). has-union (voter_ids c) others q in
    let in_others = λ (q : ℕ). has-union (voter_ids now) (voter_ids target) q in
    sym (staying-commits c all both (λ q here. grind (arith, in_c q, here)))
    ∙ quorums (staying all both) (staying-commits now all both (λ q here. grind (arith, in_c q, in_others q, here)) ∙ by_now more few)
    (staying-commits target all both (λ q here. grind (arith, in_c q, in_others q, here)) ∙ by_target more few)

pub KeepsTolerance-from_quorums : (down : Ids) (now target : Configuration) (steps : List Step) → KeepsQuorums now steps target → KeepsTolerance down now steps target
KeepsTolerance-from_quorums down now target steps keeps =
    IsRunWith-weaker (λ before step after. HasQuorumsOf now target after) (λ before step after. IsAsTolerant down now target after)
    (λ before after step quorums. IsAsTolerant-from_quorums down now target after quorums) now target steps keeps
