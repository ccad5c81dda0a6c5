-- The steps from a configuration that is not joint to a joint one.
use Rattle.std.proofs.Common.{◌≡◌, ℕ, true, not, ◌&&◌, refl, ap, arith}
use Rattle.std.specs.Prelude.{Ok}
use Rattle.std.proofs.lemmas.Bool.{not-true}
use Rattle.quorum_sets.specs.Ids.{has, union}
use Rattle.quorum_sets.proofs.Offered.{has-ids_where}
use Rattle.conf_change.specs.Configuration.{Configuration, is_joint, is_member}
use Rattle.conf_change.specs.Change.{result_of}
use Rattle.conf_change.specs.Outcome.{outcome, with_outgoing}
use Rattle.conf_change.proofs.Offered.{outcome-enter_accepted, any-members, configuration-by_members, ValidByMember-from_is_valid, is_empty-no_ids}
use Rattle.conf_plan.specs.Run.{IsValidWithVoter}
use Rattle.conf_plan.specs.Planned.{single_with, moves, shared_members, entering_step}
use Rattle.conf_plan.proofs.Runs.Chains.{run-is_valid}
use Rattle.conf_plan.proofs.FindingMoves.OfEachId.{has-union}
use Rattle.conf_plan.proofs.FindingMoves.ResultingConfiguration.{IsSingle, AreWanted, moves-has_wanted}
use Rattle.conf_plan.proofs.PlannedSteps.BetweenSingle.{single_steps-is_run}

-- ---- up to the target's outgoing voters
pub has-shared_members : (c target : Configuration) (q : ℕ) → has (shared_members c target) q ≡ (is_member target q && not (has target.outgoing q) && is_member c q)
has-shared_members c target q = grind (arith, has-ids_where, not, any-members)

pub outgoing-are_wanted : (c target : Configuration) → IsValidWithVoter target → is_joint target ≡ true → AreWanted target.outgoing (shared_members c target)
outgoing-are_wanted c target valid_with_voter joint = grind (arith, ValidByMember-from_is_valid, not-true, has-shared_members)

-- the configuration that is reached there
pub at_outgoing-is_single : (c target : Configuration) → IsSingle c → IsValidWithVoter target → is_joint target ≡ true
    → IsSingle (single_with target.outgoing (shared_members c target))
at_outgoing-is_single c target single valid_with_voter joint =
    let run = single_steps-is_run c target.outgoing (shared_members c target) single (outgoing-are_wanted c target valid_with_voter joint) in
    record { valid_with_voter = run-is_valid c (single_with target.outgoing (shared_members c target)) _ single.valid_with_voter run; single = ap not is_empty-no_ids }

-- it has the members of both ends
pub at_outgoing-has_members : (c target : Configuration) (q : ℕ) → is_member c q ≡ true → is_member target q ≡ true
    → is_member (single_with target.outgoing (shared_members c target)) q ≡ true
at_outgoing-has_members c target q member stays = grind (arith, has-shared_members c target q, member, stays)

-- ---- into the joint configuration
pub incoming-are_wanted : (target : Configuration) → IsValidWithVoter target → AreWanted target.incoming (union target.learners target.learners_next)
incoming-are_wanted target valid_with_voter = grind (arith, ValidByMember-from_is_valid, not-true, has-union)

pub entering-reaches : (c target : Configuration) → IsSingle c → IsValidWithVoter target → c.incoming ≡ target.outgoing → outcome c (entering_step c target) ≡ Ok target
entering-reaches c target single valid_with_voter same =
    let valid = ValidByMember-from_is_valid target valid_with_voter.valid in
    let wanted = union target.learners target.learners_next in
    let changes = moves c target.incoming wanted in
    let moved = moves-has_wanted c c.incoming target.incoming wanted target.auto_leave single (incoming-are_wanted target valid_with_voter)
    (ValidByMember-from_is_valid c single.valid_with_voter.valid).learner_incoming in
    let made : result_of (with_outgoing c target.auto_leave) changes ≡ target =
    configuration-by_members (result_of (with_outgoing c target.auto_leave) changes) target
    (λ q. ap (λ s. has s q) moved.incoming) same
    (λ q. grind (arith, moved.learners q, has-union target.learners target.learners_next q, same, valid.learner_outgoing q, valid.next_outgoing q))
    (λ q. grind (arith, moved.next q, has-union target.learners target.learners_next q, same, valid.learner_outgoing q, valid.next_outgoing q)) refl in
    outcome-enter_accepted c target target.auto_leave changes single.single single.valid_with_voter.voter made valid_with_voter.voter
