-- The plan preserves what any run preserves.
use Rattle.std.proofs.Common.{◌≡◌, ℕ, Bool, true, false, not, ◌&&◌, ◌||◌, ◌==◌, ◌↔◌, List, [], ◌∷◌, refl, sym, ap, subst, ◌∙◌, eqb-true, arith}
use Rattle.std.proofs.lemmas.Bool.{and_parts, and_from, not_from_false}
use Rattle.std.proofs.lemmas.List.Elements.{All-weaker}
use Rattle.std.proofs.lemmas.List.Folds.{list_any_none}
use Rattle.quorum_sets.specs.Ids.{Ids, no_ids, has}
use Rattle.quorum_sets.proofs.Offered.{has-no_ids}
use Rattle.conf_change.specs.Configuration.{Configuration, is_member, is_joint}
use Rattle.conf_change.specs.Change.{is_removal, removes}
use Rattle.conf_change.specs.Outcome.{after_leave}
use Rattle.conf_change.specs.Progress.{is_replaced, keeps_progress}
use Rattle.conf_change.specs.declared.change.Change.{Change}
use Rattle.conf_change.specs.declared.step.Step.{Step}
use Rattle.conf_change.specs.declared.step.Step.TheVariants.{Simple, EnterJoint, LeaveJoint}
use Rattle.conf_change.proofs.Offered.{LeaveTaken-from_outcome, outcome-leave_accepted, outgoing-none}
use Rattle.conf_plan.specs.Best.{Preserves, outlasts_leave}
use Rattle.conf_plan.specs.OnTheWay.{PreservesAll}
use Rattle.conf_plan.specs.PathBy.{from_single_by, path_by}
use Rattle.conf_plan.specs.Planned.{kind_of_move, moves, shared_members, entering_step, planned_from_single, planned}
use Rattle.conf_plan.specs.Run.{IsValidWithVoter, IsRun, IsRunWith}
use Rattle.conf_plan.specs.declared.strategy.Strategy.{Strategy}
use Rattle.conf_plan.specs.declared.strategy.Strategy.TheVariants.{Shortest}
use Rattle.conf_plan.proofs.FindingMoves.OfEachId.{IsFor, filter_map-each, has-union}
use Rattle.conf_plan.proofs.FindingMoves.ResultingConfiguration.{IsSingle, is_member-single_with}
use Rattle.conf_plan.proofs.PlannedSteps.AlongPath.{planned_from_single-holds}
use Rattle.conf_plan.proofs.PlannedSteps.IntoJoint.{at_outgoing-has_members}
use Rattle.conf_plan.proofs.PlannedSteps.RunToTarget.{planned-is_run}
use Rattle.conf_plan.proofs.PlannedSteps.Shapes.{path_by-of_shapes}
use Rattle.conf_plan.proofs.Runs.JointEnds.{LeavesFirst-from_IsRun}
use Rattle.conf_plan.proofs.Runs.Chains.{IsRun-from_IsRunWith}

-- a step that keeps the progress of an id
abbrev pub Keeps : ℕ → Configuration → Step → Configuration → Type 0
Keeps q before step after = keeps_progress before step after q ≡ true

pub keeps_progress-of_member : (q : ℕ) (before : Configuration) (step : Step) (after : Configuration) → is_member before q ≡ true → is_member after q ≡ true → is_replaced step after q ≡ false
    → keeps_progress before step after q ≡ true
keeps_progress-of_member q before step after member stays same = and_from _ _ (and_from _ _ member stays) (not_from_false _ same)

pub keeps_progress-member : (q : ℕ) (before : Configuration) (step : Step) (after : Configuration) → keeps_progress before step after q ≡ true → is_member after q ≡ true
keeps_progress-member q before step after kept = (and_parts (is_member before q) (is_member after q) (and_parts _ (not (is_replaced step after q)) kept).0).1

-- ---- what any run states of an id that it preserves
pub preserves-target : (before after : Configuration) (steps : List Step) (q : ℕ) → Preserves before steps after q → is_member after q ≡ true
preserves-target before after [] q preserves = ap (λ c. is_member c q) (sym preserves.1) ∙ preserves.0
preserves-target before after (step ∷ steps) q preserves =
    preserves-target preserves.1.0 after steps q (keeps_progress-member q before step preserves.1.0 preserves.1.1.1, preserves.1.2)

pub preserves-outlasts : (before after : Configuration) (steps : List Step) (q : ℕ) → Preserves before steps after q → outlasts_leave before steps q ≡ true
preserves-outlasts before after [] q preserves = refl
preserves-outlasts before after (Simple changes ∷ steps) q preserves = refl
preserves-outlasts before after (EnterJoint auto_leave changes ∷ steps) q preserves = refl
preserves-outlasts before after (LeaveJoint ∷ steps) q preserves = grind (arith, LeaveTaken-from_outcome, keeps_progress-member)

-- ---- the moves remove no id that is wanted
pub moves-remove_no_wanted : (c : Configuration) (voters learners : Ids) (q : ℕ) → (has voters q || has learners q) ≡ true → removes (moves c voters learners) q ≡ false
moves-remove_no_wanted c voters learners q wanted =
    let kind_for = kind_of_move c voters learners in
    let removes_it : Change → Bool = λ change. (change.id == q) && is_removal change.kind in
    list_any_none removes_it (moves c voters learners)
    (All-weaker (IsFor kind_for) (λ change. removes_it change ≡ false) (λ change is. grind (arith, eqb-true change.id q, is, wanted)) (moves c voters learners) (filter_map-each kind_for _))

-- ---- from a configuration that is not joint
-- who goes out in the target keeps its progress, and the others are wanted
pub entering_step-keeps : (c target : Configuration) (q : ℕ) → is_member c q ≡ true → is_member target q ≡ true → keeps_progress c (entering_step c target) target q ≡ true
entering_step-keeps c target q member stays = grind (arith, moves-remove_no_wanted, has-union)

pub planned_from_single-keeps : (c target : Configuration) (q : ℕ) → IsSingle c → IsValidWithVoter target → is_member c q ≡ true → is_member target q ≡ true
    → IsRunWith (Keeps q) c (planned_from_single c target) target
planned_from_single-keeps c target q single valid_with_voter member stays =
    planned_from_single-holds (Keeps q) (λ voters learners. (has voters q || has learners q) ≡ true) c target single valid_with_voter (record {
      apart = λ apart. grind (arith, outgoing-none target apart, has-no_ids q, stays);
      outgoing = λ joint. sym (is_member-single_with target.outgoing (shared_members c target) q) ∙ at_outgoing-has_members c target q member stays;
      simple = λ voters learners wants wanted. grind (arith, member, has-no_ids q, moves-remove_no_wanted c voters learners q, wants);
      enters = λ voters learners wants moved. grind (arith, member, moved.incoming, moved.learners q, moves-remove_no_wanted c voters learners q, wants);
      leaves = λ voters learners wants moved. grind (arith, moved.incoming, moved.learners q, has-no_ids q, wants);
      into = λ d single_d has_all. entering_step-keeps d target q (has_all q member stays) stays;
    })

-- ---- along the path by a strategy
-- a path that keeps the progress of the members of both ends, once a joint configuration is left, preserves theirs
path_by-preserves : (strategy : Strategy) (down : Ids) (now target : Configuration) (q : ℕ) → IsValidWithVoter now
    → ((now ≡ target → ⊥) → (c : Configuration) → IsSingle c → is_member c q ≡ true → is_member target q ≡ true → IsRunWith (Keeps q) c (from_single_by strategy down c target) target)
    → is_member now q ≡ true → is_member target q ≡ true → ((now ≡ target → ⊥) → is_joint now ≡ true → is_member (after_leave now) q ≡ true)
    → Preserves now (path_by strategy down now target) target q
path_by-preserves strategy down now target q valid_with_voter keeps member stays outlasts =
    path_by-of_shapes strategy down now target (λ steps. Preserves now steps target q) valid_with_voter (λ same. (member, same))
    (λ differs joint single. (
      member,
      (
        after_leave now,
        (outcome-leave_accepted now joint, keeps_progress-of_member q now LeaveJoint (after_leave now) member (outlasts differs joint) refl),
        keeps differs (after_leave now) single (outlasts differs joint) stays,
      ),
    ))
    (λ differs single. (member, keeps differs now single member stays))

-- a run from a joint configuration leaves it first
outlasts_leave-after_leave : (now target : Configuration) (steps : List Step) (q : ℕ) → IsRun now steps target → outlasts_leave now steps q ≡ true
    → (now ≡ target → ⊥) → is_joint now ≡ true → is_member (after_leave now) q ≡ true
outlasts_leave-after_leave now target steps q run outlasts differs joint =
    let Outlasts : List Step → Type 0 = λ xs. outlasts_leave now xs q ≡ true in
    subst Outlasts (LeavesFirst-from_IsRun now target steps joint differs run).whole outlasts

-- so it preserves what any run preserves
pub path_by-preserves_all : (strategy : Strategy) (down : Ids) (now target : Configuration) → IsValidWithVoter now
    → ((now ≡ target → ⊥) → (c : Configuration) → IsSingle c → (q : ℕ) → is_member c q ≡ true → is_member target q ≡ true → IsRunWith (Keeps q) c (from_single_by strategy down c target) target)
    → PreservesAll now (path_by strategy down now target) target
path_by-preserves_all strategy down now target valid_with_voter keeps other q preserves =
    path_by-preserves strategy down now target q valid_with_voter (λ differs c single. keeps differs c single q) preserves.0 (preserves-target now target other q preserves)
    (outlasts_leave-after_leave now target other q (IsRun-from_IsRunWith (Keeps q) now target other preserves.1) (preserves-outlasts now target other q preserves))

-- ---- the plan
pub planned-preserving : (now target : Configuration) → IsValidWithVoter now → IsValidWithVoter target → PreservesAll now (planned now target) target
planned-preserving now target now_valid_with_voter valid_with_voter =
    path_by-preserves_all Shortest no_ids now target now_valid_with_voter (λ differs c single q. planned_from_single-keeps c target q single valid_with_voter)

pub planned-preserved : (now target : Configuration) (q : ℕ) → IsValidWithVoter now → IsValidWithVoter target
    → (Preserves now (planned now target) target q) ↔ ((is_member now q && is_member target q && outlasts_leave now (planned now target) q) ≡ true)
planned-preserved now target q now_valid_with_voter valid_with_voter = (
  λ preserves. and_from _ _ (and_from _ _ preserves.0 (preserves-target now target _ q preserves)) (preserves-outlasts now target _ q preserves),
  λ each.
      let all = and_parts (is_member now q && is_member target q) _ each in
      let both = and_parts (is_member now q) (is_member target q) all.0 in
      path_by-preserves Shortest no_ids now target q now_valid_with_voter (λ differs c single. planned_from_single-keeps c target q single valid_with_voter) both.0 both.1
      (outlasts_leave-after_leave now target (planned now target) q (planned-is_run now target now_valid_with_voter valid_with_voter) all.1),
)
