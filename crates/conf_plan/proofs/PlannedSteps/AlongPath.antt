-- What holds at each step of a path, part by part.
use Rattle.std.proofs.Common.{◌≡◌, ℕ, true, false, refl, subst}
use Rattle.quorum_sets.specs.Ids.{Ids}
use Rattle.conf_change.specs.Configuration.{Configuration, is_member, is_joint}
use Rattle.conf_change.specs.Outcome.{after_leave}
use Rattle.conf_change.specs.declared.step.Step.{Step}
use Rattle.conf_change.specs.declared.step.Step.TheVariants.{Simple, EnterJoint, LeaveJoint}
use Rattle.conf_change.proofs.Offered.{outcome-leave_accepted}
use Rattle.conf_plan.specs.PathBy.{from_single_by, path_by}
use Rattle.conf_plan.specs.Planned.{moves, single_with, single_steps, shared_members, entering_step, planned_from_single}
use Rattle.conf_plan.specs.Run.{IsValidWithVoter, IsRunWith, Gives}
use Rattle.conf_plan.specs.declared.strategy.Strategy.{Strategy}
use Rattle.conf_plan.proofs.FindingMoves.ResultingConfiguration.{IsSingle, AreWanted, HasWanted, own-are_wanted, single_with-own}
use Rattle.conf_plan.proofs.PlannedSteps.BetweenSingle.{entered_by, entered_by-has_wanted, simple_moves-accepted, enter_moves-accepted, leave_moves-accepted, single_steps-is_chain}
use Rattle.conf_plan.proofs.PlannedSteps.IntoJoint.{outgoing-are_wanted, at_outgoing-has_members, at_outgoing-is_single, entering-reaches}
use Rattle.conf_plan.proofs.PlannedSteps.Shapes.{path_by-of_shapes, planned_from_single-of_shapes}
use Rattle.conf_plan.proofs.Runs.Chains.{IsChain-append}

-- ---- along the plan from a configuration that is not joint
-- Wants is true of the voters and learners that its steps make, and Holds of each kind of step
pub record HoldsInPlan (Holds : Configuration → Step → Configuration → Type 0) (Wants : Ids → Ids → Type 0) (c target : Configuration) : Type 0 where
  pub apart : is_joint target ≡ false → Wants target.incoming target.learners
  pub outgoing : is_joint target ≡ true → Wants target.outgoing (shared_members c target)
  pub simple : (voters learners : Ids) → Wants voters learners → AreWanted voters learners → Holds c (Simple (moves c voters learners)) (single_with voters learners)
  pub enters : (voters learners : Ids) → Wants voters learners → HasWanted (entered_by c voters learners) voters learners
      → Holds c (EnterJoint false (moves c voters learners)) (entered_by c voters learners)
  pub leaves : (voters learners : Ids) → Wants voters learners → HasWanted (entered_by c voters learners) voters learners
      → Holds (entered_by c voters learners) LeaveJoint (single_with voters learners)
  -- into a joint target, from a configuration that has the members of both ends
  pub into : (d : Configuration) → IsSingle d → ((q : ℕ) → is_member c q ≡ true → is_member target q ≡ true → is_member d q ≡ true) → Holds d (entering_step d target) target

pub planned_from_single-holds : (Holds : Configuration → Step → Configuration → Type 0) (Wants : Ids → Ids → Type 0) (c target : Configuration) → IsSingle c → IsValidWithVoter target
    → HoldsInPlan Holds Wants c target → IsRunWith Holds c (planned_from_single c target) target
planned_from_single-holds Holds Wants c target single valid_with_voter parts =
    let at_outgoing = single_with target.outgoing (shared_members c target) in
    let Leads : Configuration → Step → Configuration → Type 0 = λ before step after. Gives before step after × Holds before step after in
    let reach : (voters learners : Ids) → Wants voters learners → AreWanted voters learners → IsRunWith Holds c (single_steps c voters learners) (single_with voters learners) =
    λ voters learners wants wanted.
    let moved = entered_by-has_wanted c voters learners single wanted in
    single_steps-is_chain Leads c voters learners
    (λ few. (simple_moves-accepted c voters learners single wanted few, parts.simple voters learners wants wanted))
    (enter_moves-accepted c voters learners single wanted, parts.enters voters learners wants moved)
    (leave_moves-accepted c voters learners single wanted, parts.leaves voters learners wants moved) in
    planned_from_single-of_shapes c target (λ steps. IsRunWith Holds c steps target) single valid_with_voter (record {
      nothing = λ same. same;
      apart = λ apart differs.
          let P : Configuration → Type 0 = λ d. IsRunWith Holds c (single_steps c target.incoming target.learners) d in
          subst P (single_with-own target (record { valid_with_voter = valid_with_voter; single = apart }))
          (reach target.incoming target.learners (parts.apart apart) (own-are_wanted target valid_with_voter));
      at_once = λ joint same. (target, (entering-reaches c target single valid_with_voter same, parts.into c single (λ q member stays. member)), refl);
      inserted = λ joint differs.
          let reached = at_outgoing-is_single c target single valid_with_voter joint in
          IsChain-append Leads c at_outgoing target _ _ (reach target.outgoing (shared_members c target) (parts.outgoing joint) (outgoing-are_wanted c target valid_with_voter joint)) (
            target,
            (
              entering-reaches at_outgoing target reached valid_with_voter refl,
              parts.into at_outgoing reached (at_outgoing-has_members c target),
            ),
            refl,
          );
    })

-- ---- along the path by a strategy
pub path_by-holds : (strategy : Strategy) (down : Ids) (Holds : Configuration → Step → Configuration → Type 0) (now target : Configuration) → IsValidWithVoter now
    → Holds now LeaveJoint (after_leave now)
    → ((now ≡ target → ⊥) → (c : Configuration) → IsSingle c → c.incoming ≡ now.incoming → IsRunWith Holds c (from_single_by strategy down c target) target)
    → IsRunWith Holds now (path_by strategy down now target) target
path_by-holds strategy down Holds now target valid_with_voter leaving from_single =
    path_by-of_shapes strategy down now target (λ steps. IsRunWith Holds now steps target) valid_with_voter (λ same. same)
    (λ differs joint single. (after_leave now, (outcome-leave_accepted now joint, leaving), from_single differs (after_leave now) single refl))
    (λ differs single. from_single differs now single refl)
