-- Where all voters of the target are members, each voter after a step of the plan keeps its progress in it.
use Rattle.std.proofs.Common.{◌≡◌, ℕ, true, not, ◌||◌, arith}
use Rattle.std.proofs.lemmas.Bool.{or_left, or_right}
use Rattle.quorum_sets.specs.Ids.{Ids, has}
use Rattle.quorum_sets.proofs.Offered.{has-ids_where, has-no_ids}
use Rattle.conf_change.specs.Configuration.{Configuration, is_member, members}
use Rattle.conf_change.specs.Outcome.{after_leave}
use Rattle.conf_change.specs.Progress.{keeps_progress}
use Rattle.conf_change.specs.declared.step.Step.{Step}
use Rattle.conf_change.specs.declared.step.Step.TheVariants.{Simple, LeaveJoint}
use Rattle.conf_plan.specs.OnTheWay.{MakesVotersOfReady, NoVoterCatchesUp}
use Rattle.conf_plan.specs.Planned.{moves, single_with, planned_from_single}
use Rattle.conf_plan.specs.Run.{IsValidWithVoter, IsRunWith}
use Rattle.conf_plan.proofs.BestPlan.PreservedMembers.{moves-remove_no_wanted, entering_step-keeps}
use Rattle.conf_plan.proofs.FindingMoves.ResultingConfiguration.{IsSingle}
use Rattle.conf_plan.proofs.PlannedSteps.AlongPath.{planned_from_single-holds}
use Rattle.conf_plan.proofs.OnTheWay.Newcomers.{HasNoNewcomer}

-- ---- a step
-- each voter after it, incoming or outgoing, keeps its progress
abbrev pub KeepsVoters : Configuration → Step → Configuration → Type 0
KeepsVoters before step after = (q : ℕ) → (has after.incoming q || has after.outgoing q) ≡ true → keeps_progress before step after q ≡ true

-- then none of them has to catch up
pub NoVoterCatchesUp-from_kept : (before after : Configuration) (step : Step) → KeepsVoters before step after → NoVoterCatchesUp before step after
NoVoterCatchesUp-from_kept before after step keeps q catches = grind (arith, has-ids_where (λ id. not (keeps_progress before step after id)) (members after) q, keeps q, catches)

-- and a new one was a learner that keeps its progress
pub MakesVotersOfReady-from_kept : (before after : Configuration) (step : Step) → KeepsVoters before step after → MakesVotersOfReady before step after
MakesVotersOfReady-from_kept before after step keeps q votes new = grind (arith, or_left)

pub KeepsVoters-leaving : (now : Configuration) → KeepsVoters now LeaveJoint (after_leave now)
KeepsVoters-leaving now q votes = grind (arith, has-no_ids q, votes)

-- ---- along the plan
-- each of these voters is a member
abbrev pub AreMembers : Configuration → Ids → Type 0
AreMembers c voters = (q : ℕ) → has voters q ≡ true → is_member c q ≡ true

pub simple_moves-keep_voters : (c : Configuration) (voters learners : Ids) → AreMembers c voters → KeepsVoters c (Simple (moves c voters learners)) (single_with voters learners)
simple_moves-keep_voters c voters learners known q votes = grind (arith, known q, has-no_ids q, moves-remove_no_wanted c voters learners q, votes)

pub planned_from_single-keeps_voters : (c target : Configuration) → IsSingle c → IsValidWithVoter target → HasNoNewcomer c target
    → IsRunWith KeepsVoters c (planned_from_single c target) target
planned_from_single-keeps_voters c target single valid_with_voter known =
    let voter : (q : ℕ) → (has target.incoming q || has target.outgoing q) ≡ true → is_member target q ≡ true = λ q votes. or_left _ (has target.learners q) votes in
    planned_from_single-holds KeepsVoters (λ voters learners. AreMembers c voters) c target single valid_with_voter (record {
      apart = λ apart q votes. known q (or_left (has target.incoming q) _ votes);
      outgoing = λ joint q votes. known q (or_right (has target.incoming q) _ votes);
      simple = λ voters learners members wanted. simple_moves-keep_voters c voters learners members;
      enters = λ voters learners members moved q votes. grind (arith, members q, moved.incoming, moves-remove_no_wanted c voters learners q, votes);
      leaves = λ voters learners members moved q votes. grind (arith, moved.incoming, has-no_ids q, votes);
      into = λ d single_d has_all q votes. entering_step-keeps d target q (has_all q (known q votes) (voter q votes)) (voter q votes);
    })
