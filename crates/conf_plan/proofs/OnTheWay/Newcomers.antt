-- The step that makes newcomers learners.
use Rattle.std.proofs.Common.{◌≡◌, ℕ, true, not, ◌&&◌, ◌||◌, [], ◌∷◌, arith, eqb-true}
use Rattle.quorum_sets.specs.Ids.{has, ascending, is_empty, union}
use Rattle.quorum_sets.proofs.Offered.{has-ascending, has-ids_where, has-no_ids, has-same_ids, has-union}
use Rattle.conf_change.specs.Configuration.{Configuration, is_member}
use Rattle.conf_change.specs.declared.step.Step.TheVariants.{Simple}
use Rattle.conf_change.proofs.Offered.{ValidByMember-from_is_valid, has-none_in_empty, is_empty-no_ids, is_same_set-refl}
use Rattle.conf_plan.specs.LearnersFirst.{newcomers, learner_changes, with_learners}
use Rattle.conf_plan.specs.Run.{IsValidWithVoter, Gives}
use Rattle.conf_plan.proofs.FindingMoves.ResultingConfiguration.{IsSingle, AreWanted, own-are_wanted, single_with-own}
use Rattle.conf_plan.proofs.PlannedSteps.BetweenSingle.{simple_moves-accepted}
use Rattle.conf_plan.proofs.Runs.Chains.{run-is_valid, IsRun-one}

-- ---- who is one
pub has-newcomers : (c target : Configuration) (q : ℕ) → has (newcomers c target) q ≡ (not (is_member c q) && (has target.incoming q || has target.outgoing q))
has-newcomers c target q =
    let voters = union target.incoming target.outgoing in
    grind (arith, has-ids_where (λ id. not (is_member c id)) (ascending voters) q, has-ascending voters q, has-union target.incoming target.outgoing q)

-- all voters of the target are members
abbrev pub HasNoNewcomer : Configuration → Configuration → Type 0
HasNoNewcomer c target = (q : ℕ) → (has target.incoming q || has target.outgoing q) ≡ true → is_member c q ≡ true

pub HasNoNewcomer-empty : (c target : Configuration) → is_empty (newcomers c target) ≡ true → HasNoNewcomer c target
HasNoNewcomer-empty c target none q here = grind (arith, has-newcomers c target q, has-none_in_empty (newcomers c target) none q, here)

-- a configuration has no newcomer in itself
pub newcomers-own : (c target : Configuration) → c ≡ target → is_empty (newcomers c target) ≡ true
newcomers-own c target same = grind (arith, true, has-same_ids, has-newcomers, has-no_ids, is_empty-no_ids)

-- ---- the step
pub newcomers-are_wanted : (c target : Configuration) → IsSingle c → IsValidWithVoter target → AreWanted c.incoming (union c.learners (newcomers c target))
newcomers-are_wanted c target single valid_with_voter = grind (arith, own-are_wanted, ValidByMember-from_is_valid, has-union, has-newcomers)

pub newcomers-learn : (c target : Configuration) → IsSingle c → IsValidWithVoter target
    → Gives c (Simple (learner_changes c (newcomers c target))) (with_learners c (newcomers c target))
newcomers-learn c target single valid_with_voter = grind (arith, eqb-true, is_same_set-refl, single_with-own, simple_moves-accepted, newcomers-are_wanted)

pub with_newcomers-is_single : (c target : Configuration) → IsSingle c → IsValidWithVoter target → IsSingle (with_learners c (newcomers c target))
with_newcomers-is_single c target single valid_with_voter =
    let learning = with_learners c (newcomers c target) in
    let learn = Simple (learner_changes c (newcomers c target)) in
    record { valid_with_voter = run-is_valid c learning (learn ∷ []) single.valid_with_voter (IsRun-one c learning learn (newcomers-learn c target single valid_with_voter)); single = single.single }

-- the members stay
pub with_newcomers-has_members : (c target : Configuration) (q : ℕ) → is_member c q ≡ true → is_member (with_learners c (newcomers c target)) q ≡ true
with_newcomers-has_members c target q member = grind (arith, has-union c.learners (newcomers c target) q, member)

-- then there is no newcomer left
pub HasNoNewcomer-with_newcomers : (c target : Configuration) → HasNoNewcomer (with_learners c (newcomers c target)) target
HasNoNewcomer-with_newcomers c target q here = grind (arith, has-union c.learners (newcomers c target) q, has-newcomers c target q, here)
