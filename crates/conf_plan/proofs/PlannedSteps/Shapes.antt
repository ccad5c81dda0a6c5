-- The shapes of a path: what holds of each holds of the path.
use Rattle.std.proofs.Common.{arith}
use Rattle.std.proofs.Common.{◌≡◌, true, false, not, List, [], ◌∷◌, ◌++◌, refl, sym, ap, subst, ◌∙◌}
use Rattle.std.proofs.lemmas.Bool.{cond_both, true≢false}
use Rattle.quorum_sets.specs.Ids.{Ids}
use Rattle.conf_change.specs.Configuration.{Configuration, is_joint, is_same_set, is_same}
use Rattle.conf_change.specs.Outcome.{after_leave}
use Rattle.conf_change.specs.declared.step.Step.{Step}
use Rattle.conf_change.specs.declared.step.Step.TheVariants.{LeaveJoint}
use Rattle.conf_change.proofs.Offered.{is_empty-no_ids, is_same_set-equal, is_same_set-refl, is_same-equal, is_same-is_equality, outcome-leave_accepted}
use Rattle.conf_plan.specs.PathBy.{from_single_by, path_by}
use Rattle.conf_plan.specs.Run.{IsValidWithVoter}
use Rattle.conf_plan.specs.Planned.{single_with, single_steps, shared_members, configuration_after, entering_step, joint_steps, planned_from_single}
use Rattle.conf_plan.specs.declared.strategy.Strategy.{Strategy}
use Rattle.conf_plan.proofs.FindingMoves.ResultingConfiguration.{IsSingle}
use Rattle.conf_plan.proofs.Runs.Chains.{configuration_after-run, run-is_valid, IsRun-one}
use Rattle.conf_plan.proofs.PlannedSteps.BetweenSingle.{single_steps-is_run}
use Rattle.conf_plan.proofs.PlannedSteps.IntoJoint.{outgoing-are_wanted}

-- no configuration is found to be another one
other_configuration : (a b : Configuration) → is_same a b ≡ false → a ≡ b → ⊥
other_configuration a b differs same = true≢false (sym ((is_same-is_equality a b).1 same) ∙ differs)

other_set : (a b : Ids) → is_same_set a b ≡ false → a ≡ b → ⊥
other_set a b differs same = true≢false (sym (is_same_set-refl a) ∙ ap (is_same_set a) same ∙ differs)

-- ---- from a configuration that is not joint
-- into a joint one, by its outgoing voters
outgoing-reached : (c target : Configuration) → IsSingle c → IsValidWithVoter target → is_joint target ≡ true
    → configuration_after c (single_steps c target.outgoing (shared_members c target)) ≡ single_with target.outgoing (shared_members c target)
outgoing-reached c target single valid_with_voter joint = grind (arith, configuration_after-run, single_steps-is_run, outgoing-are_wanted)

pub joint_steps-inserted : (c target : Configuration) → IsSingle c → IsValidWithVoter target → is_joint target ≡ true → is_same_set c.incoming target.outgoing ≡ false
    → joint_steps c target
    ≡ single_steps c target.outgoing (shared_members c target) ++ entering_step (single_with target.outgoing (shared_members c target)) target ∷ []
joint_steps-inserted c target single valid_with_voter joint differs = rw (differs, outgoing-reached c target single valid_with_voter joint) refl

-- its steps are none; or those to one that is not joint; or the one into a joint one, after those to its outgoing voters where the present ones are others
pub record OfShapes (c target : Configuration) (P : List Step → Type 0) : Type 0 where
  pub nothing : c ≡ target → P []
  pub apart : is_joint target ≡ false → (c ≡ target → ⊥) → P (single_steps c target.incoming target.learners)
  pub at_once : is_joint target ≡ true → c.incoming ≡ target.outgoing → P (entering_step c target ∷ [])
  pub inserted : is_joint target ≡ true → (c.incoming ≡ target.outgoing → ⊥)
      → P (single_steps c target.outgoing (shared_members c target) ++ entering_step (single_with target.outgoing (shared_members c target)) target ∷ [])

pub planned_from_single-of_shapes : (c target : Configuration) (P : List Step → Type 0) → IsSingle c → IsValidWithVoter target → OfShapes c target P
    → P (planned_from_single c target)
planned_from_single-of_shapes c target P single valid_with_voter shapes =
    let first = single_steps c target.outgoing (shared_members c target) in
    cond_both (is_same c target) _ _ P (λ same. shapes.nothing (is_same-equal c target same)) (λ differs.
    cond_both (is_joint target) _ _ P
    (λ joint.
    cond_both (is_same_set c.incoming target.outgoing) [] first (λ steps. P (steps ++ entering_step (configuration_after c steps) target ∷ []))
    (λ same. shapes.at_once joint (is_same_set-equal c.incoming target.outgoing same))
    (λ other.
    let Enters : Configuration → Type 0 = λ reached. P (first ++ entering_step reached target ∷ []) in
    subst Enters (sym (outgoing-reached c target single valid_with_voter joint)) (shapes.inserted joint (other_set c.incoming target.outgoing other))))
    (λ apart. shapes.apart apart (other_configuration c target differs)))

-- ---- from any
pub after_leave-is_single : (c : Configuration) → IsValidWithVoter c → is_joint c ≡ true → IsSingle (after_leave c)
after_leave-is_single c valid_with_voter joint = record {
  valid_with_voter = run-is_valid c (after_leave c) (LeaveJoint ∷ []) valid_with_voter (IsRun-one c (after_leave c) LeaveJoint (outcome-leave_accepted c joint));
  single = ap not is_empty-no_ids;
}

-- the steps by a strategy are none, those from a configuration that is not joint, or these after a joint one is left
pub path_by-of_shapes : (strategy : Strategy) (down : Ids) (now target : Configuration) (P : List Step → Type 0) → IsValidWithVoter now → (now ≡ target → P [])
    → ((now ≡ target → ⊥) → is_joint now ≡ true → IsSingle (after_leave now) → P (LeaveJoint ∷ from_single_by strategy down (after_leave now) target))
    → ((now ≡ target → ⊥) → IsSingle now → P (from_single_by strategy down now target)) → P (path_by strategy down now target)
path_by-of_shapes strategy down now target P valid_with_voter nothing leaves apart =
    cond_both (is_same now target) _ _ P (λ same. nothing (is_same-equal now target same)) (λ other.
    let differs = other_configuration now target other in
    cond_both (is_joint now) _ _ P (λ joint. leaves differs joint (after_leave-is_single now valid_with_voter joint))
    (λ single. apart differs (record { valid_with_voter = valid_with_voter; single = single })))
