-- What the path that changes one member at a time promises.
use Rattle.std.proofs.Common.{◌≡◌, ℕ, true, false, inl, List, [], ◌∷◌, refl, sym, ap, subst, ◌∙◌, arith}
use Rattle.std.specs.Prelude.{flat_map}
use Rattle.std.proofs.lemmas.Bool.{and_from, both_ways, cond_both, cond-true, cond-false, not-true, or_cases, or_left, or_parts}
use Rattle.quorum_sets.specs.Ids.{Ids, no_ids, has}
use Rattle.quorum_sets.proofs.Offered.{has-no_ids, has-union}
use Rattle.conf_change.specs.Configuration.{Configuration, is_member, is_joint}
use Rattle.conf_change.specs.Outcome.{after_leave}
use Rattle.conf_change.specs.declared.step.Step.{Step}
use Rattle.conf_change.specs.declared.step.Step.TheVariants.{LeaveJoint}
use Rattle.conf_change.proofs.Offered.{ValidByMember-from_is_valid, is_same-equal, outcome-leave_accepted, outgoing-none}
use Rattle.conf_plan.specs.OnTheWay.{IsAsTolerant, MakesVotersOfReady, NoVoterCatchesUp, ChangesOneLearnerFirst, OneAtATimePromises, left_first, learners_at_first, AddsNoneBefore, HasFewLearners}
use Rattle.conf_plan.specs.OneAtATime.{steps_of, order, down_in_order, one_at_a_time_from_single}
use Rattle.conf_plan.specs.PathBy.{has_path, path_by}
use Rattle.conf_plan.specs.Planned.{single_with}
use Rattle.conf_plan.specs.Run.{IsValidWithVoter, IsRunWith}
use Rattle.conf_plan.specs.declared.strategy.Strategy.TheVariants.{OneAtATime}
use Rattle.conf_plan.proofs.PlannedSteps.Shapes.{path_by-of_shapes}
use Rattle.conf_plan.proofs.OnTheWay.FewestSingleChanges.{one_at_a_time-least}
use Rattle.conf_plan.proofs.OnTheWay.OneAtATime.{AddsMembersOf, AreReady, IsTurn, steps_of-lead_on}
use Rattle.conf_plan.proofs.OnTheWay.DownLeaveFirst.{AreCalm, IsCalm, order-is_calm}
use Rattle.conf_plan.proofs.OnTheWay.FewLearners.{AreFew, has-at_first, order-is_few, size-among}
use Rattle.conf_plan.proofs.OnTheWay.OneAtATimeTolerance.{AreFine, IsNoWorseThanOne, IsAsTolerant-in_order, is_empty-in_order, order-is_fine}
use Rattle.conf_plan.proofs.OnTheWay.OrderOfIds.{AreOnce-order, between, between-all_left, mixed-none_left}
use Rattle.conf_plan.proofs.OnTheWay.ReadyVoters.{KeepsVoters, KeepsVoters-leaving, MakesVotersOfReady-from_kept, NoVoterCatchesUp-from_kept}
use Rattle.conf_plan.proofs.BestPlan.PreservedMembers.{Keeps, path_by-preserves_all}
use Rattle.conf_plan.proofs.BestPlan.Theorem.{run-overlaps}
use Rattle.conf_plan.proofs.FindingMoves.ResultingConfiguration.{IsSingle, single_with-own}
use Rattle.conf_plan.proofs.Runs.Chains.{IsRun-from_IsRunWith, IsRunWith-weaker}

-- ---- from a configuration that is not joint
-- the voters outnumber those that are down as at one of the ends, and few ids are learners
record IsFine (down : Ids) (c target d : Configuration) : Type 0 where
  voters : IsNoWorseThanOne (down_in_order down c target) c.incoming target.incoming d.incoming
  learners : HasFewLearners down c target d

abbrev IsTurnFrom : Ids → Configuration → Configuration → Configuration → Step → Configuration → Type 0
IsTurnFrom down c target = IsTurn (IsFine down c target) (IsCalm (down_in_order down c target) target) target

ready-from : (down : Ids) (c target : Configuration) (left : List ℕ) → AreFine (down_in_order down c target) c.incoming target.incoming left → AreCalm (down_in_order down c target) c target left
    → AreFew down c target left → AreReady (IsFine down c target) (IsCalm (down_in_order down c target) target) c target left
ready-from down c target [] fine calm few = record { voters = fine; learners = few }
ready-from down c target (id ∷ left) fine calm few = (
  record { fine = record { voters = fine.0; learners = few.0.0 }; learning = λ new. record { voters = fine.0; learners = few.0.1 new }; calm = calm.0 },
  ready-from down c target left fine.1 calm.1 few.1,
)

-- the ids that are down in the order are down
down_in_order-within : (down : Ids) (c target : Configuration) (q : ℕ) → has (down_in_order down c target) q ≡ true → has down q ≡ true
down_in_order-within down c target q = grind (arith, cond_both, true, both_ways, has-no_ids)

from_single-has_turns : (down : Ids) (c target : Configuration) → IsSingle c → IsSingle target → IsRunWith (IsTurnFrom down c target) c (one_at_a_time_from_single down c target) target
from_single-has_turns down c target single_c single =
    let in_order = down_in_order down c target in
    let ids = order in_order c target in
    let valid_c = ValidByMember-from_is_valid c single_c.valid_with_voter.valid in
    let valid = ValidByMember-from_is_valid target single.valid_with_voter.valid in
    let start = between-all_left in_order c target valid_c valid in
    let end : between c target [] ≡ single_with target.incoming target.learners = λ i. single_with (mixed-none_left c.incoming target.incoming i) (mixed-none_left c.learners target.learners i) in
    let Leads : Configuration → Configuration → Type 0 = λ a b. IsRunWith (IsTurnFrom down c target) a (flat_map (steps_of c target) ids) b in
    subst (λ a. Leads a target) (start ∙ single_with-own c single_c)
    (subst (Leads (between c target ids)) (end ∙ single_with-own target single)
    (steps_of-lead_on (IsFine down c target) (IsCalm in_order target) c target ids valid_c valid (outgoing-none target single.single) (AreOnce-order in_order c target)
    (λ d fine. is_empty-in_order down c target d.incoming (not-true _ single_c.valid_with_voter.voter) (not-true _ single.valid_with_voter.voter) fine.voters)
    (ready-from down c target ids (order-is_fine in_order c target (ap (λ (d : Configuration). d.incoming) start)) (order-is_calm in_order c target)
    (order-is_few down in_order c target (down_in_order-within down c target) valid_c valid (ap (λ (d : Configuration). d.learners) start)))))

turns-keep : (Fine Calm : Configuration → Type 0) (target before after : Configuration) (steps : List Step) (q : ℕ) → is_member target q ≡ true → is_member before q ≡ true
    → IsRunWith (IsTurn Fine Calm target) before steps after → IsRunWith (Keeps q) before steps after
turns-keep Fine Calm target before after [] q becomes member run = run
turns-keep Fine Calm target before after (step ∷ steps) q becomes member run =
    let turn = run.1.1 in
    let stays = turn.stays q becomes member in
    (run.0, (run.1.0, turn.kept q member stays), turns-keep Fine Calm target run.0 after steps q becomes stays run.2)

-- ---- from any
-- what holds at each step, also where a joint configuration is left; c is the configuration after that
record IsOneChange (down : Ids) (now c target before : Configuration) (step : Step) (after : Configuration) : Type 0 where
  learner_first : ChangesOneLearnerFirst before step after
  kept : KeepsVoters before step after
  adds : AddsMembersOf target before step after
  tolerant : IsAsTolerant down now target after
  calm : (joiner : ℕ) → is_member before joiner ≡ false → is_member after joiner ≡ true → IsCalm (down_in_order down c target) target before
  few : HasFewLearners down c target after

turn-is_one_change : (down : Ids) (now c target before after : Configuration) (step : Step) → IsSingle c → c.incoming ≡ now.incoming → IsTurnFrom down c target before step after
    → IsOneChange down now c target before step after
turn-is_one_change down now c target before after step single same turn = record {
  learner_first = turn.learner_first;
  kept = λ q votes. turn.kept q (grind (arith, turn.learner_first.learners q, turn.single, has-no_ids q, votes)) (or_left _ (has after.learners q) votes);
  adds = turn.adds;
  tolerant = IsAsTolerant-in_order down now c target after same (outgoing-none c single.single) turn.single turn.fine.voters;
  calm = turn.calm;
  few = turn.fine.learners;
}

leaving-is_one_change : (down : Ids) (now target : Configuration) → IsValidWithVoter now → IsOneChange down now (after_leave now) target now LeaveJoint (after_leave now)
leaving-is_one_change down now target valid_with_voter =
    let valid = ValidByMember-from_is_valid now valid_with_voter.valid in
    record {
      learner_first = record { one = tt; learners = λ q votes new. absurd (both_ways _ (or_parts _ _ new).0 votes) };
      kept = KeepsVoters-leaving now;
      adds = λ q is. grind (arith, has-union now.learners now.learners_next q, has-no_ids q, valid.next_outgoing q, is);
      tolerant = IsAsTolerant-in_order down now (after_leave now) target (after_leave now) refl refl refl (inl (omega arith));
      -- who is a member then was one before
      calm = λ joiner was is. absurd (grind (arith, has-union now.learners now.learners_next joiner, has-no_ids joiner, valid.next_outgoing joiner, was, is));
      few = inl (size-among _ (learners_at_first down (after_leave now) target) (λ q here. grind (arith, has-at_first down (after_leave now) target q, here)));
    }

target-is_single : (now target : Configuration) → IsValidWithVoter target → has_path OneAtATime now target ≡ true → (now ≡ target → ⊥) → IsSingle target
target-is_single now target valid_with_voter way differs = grind (arith, or_cases, is_same-equal, not-true)

one_at_a_time-changes : (down : Ids) (now target : Configuration) → IsValidWithVoter now → IsValidWithVoter target → has_path OneAtATime now target ≡ true
    → IsRunWith (IsOneChange down now (left_first now) target) now (path_by OneAtATime down now target) target
one_at_a_time-changes down now target now_valid_with_voter valid_with_voter way =
    let Leads : List Step → Configuration → Type 0 = λ steps c. IsRunWith (IsOneChange down now c target) now steps target in
    let from_single : (now ≡ target → ⊥) → (c : Configuration) → IsSingle c → c.incoming ≡ now.incoming → IsRunWith (IsOneChange down now c target) c (one_at_a_time_from_single down c target) target =
    λ differs c single same.
    IsRunWith-weaker (IsTurnFrom down c target) (IsOneChange down now c target) (λ before after step turn. turn-is_one_change down now c target before after step single same turn) c target _
    (from_single-has_turns down c target single (target-is_single now target valid_with_voter way differs)) in
    path_by-of_shapes OneAtATime down now target (λ steps. Leads steps (left_first now)) now_valid_with_voter (λ same. same)
    (λ differs joint single.
    subst (Leads (LeaveJoint ∷ one_at_a_time_from_single down (after_leave now) target)) (sym (cond-true (is_joint now) _ _ joint)) (
      after_leave now,
      (outcome-leave_accepted now joint, leaving-is_one_change down now target now_valid_with_voter),
      from_single differs (after_leave now) single refl,
    ))
    (λ differs single. subst (Leads (one_at_a_time_from_single down now target)) (sym (cond-false (is_joint now) _ _ single.single)) (from_single differs now single refl))

-- no other members come than those of the target
pub one_at_a_time-adds : (down : Ids) (now target : Configuration) → IsValidWithVoter now → IsValidWithVoter target → has_path OneAtATime now target ≡ true
    → IsRunWith (AddsMembersOf target) now (path_by OneAtATime down now target) target
one_at_a_time-adds down now target now_valid_with_voter valid_with_voter way =
    IsRunWith-weaker (IsOneChange down now (left_first now) target) (AddsMembersOf target) (λ before after step change. change.adds) now target (path_by OneAtATime down now target) (one_at_a_time-changes down now target now_valid_with_voter valid_with_voter way)

pub one_at_a_time-keeps_promises : (down : Ids) (now target : Configuration) → IsValidWithVoter now → IsValidWithVoter target → has_path OneAtATime now target ≡ true
    → OneAtATimePromises down now (path_by OneAtATime down now target) target
one_at_a_time-keeps_promises down now target now_valid_with_voter valid_with_voter way =
    let steps = path_by OneAtATime down now target in
    let Holds : Configuration → Step → Configuration → Type 0 = IsOneChange down now (left_first now) target in
    let changes = one_at_a_time-changes down now target now_valid_with_voter valid_with_voter way in
    record {
      run = IsRunWith-weaker Holds ChangesOneLearnerFirst (λ before after step change. change.learner_first) now target steps changes;
      least = one_at_a_time-least down now target now_valid_with_voter;
      tolerance = IsRunWith-weaker Holds (λ before step after. IsAsTolerant down now target after) (λ before after step change. change.tolerant) now target steps changes;
      voters = IsRunWith-weaker Holds MakesVotersOfReady (λ before after step change. MakesVotersOfReady-from_kept before after step change.kept) now target steps changes;
      caught_up = IsRunWith-weaker Holds NoVoterCatchesUp (λ before after step change. NoVoterCatchesUp-from_kept before after step change.kept) now target steps changes;
      preserving =
          path_by-preserves_all OneAtATime down now target now_valid_with_voter (λ differs c single q was becomes.
          turns-keep (IsFine down c target) (IsCalm (down_in_order down c target) target) target c target (one_at_a_time_from_single down c target) q becomes was
          (from_single-has_turns down c target single (target-is_single now target valid_with_voter way differs)));
      overlap = run-overlaps now target steps (IsRun-from_IsRunWith Holds now target steps changes);
      down_first = λ commits commits_at_target.
          let all : down_in_order down (left_first now) target ≡ down = cond-true _ down no_ids (and_from _ _ commits commits_at_target) in
          IsRunWith-weaker Holds (AddsNoneBefore down target)
          (λ before after step change joiner id was is is_down. change.calm joiner was is id (subst (λ ids. has ids id ≡ true) (sym all) is_down)) now target steps changes;
      few_learners = IsRunWith-weaker Holds (λ before step after. HasFewLearners down (left_first now) target after) (λ before after step change. change.few) now target steps changes;
    }
