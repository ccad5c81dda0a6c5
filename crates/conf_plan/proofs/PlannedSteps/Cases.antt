-- The cases of the planner, and the steps that it adds.
use Rattle.std.proofs.Common.{◌≡◌, ℕ, true, false, not, List, [], ◌∷◌, ◌++◌, sym, ap, subst, ◌∙◌, arith}
use Rattle.std.proofs.lemmas.Bool.{ne_eqb, cond-true, cond-false}
use Rattle.std.proofs.lemmas.List.{append_assoc}
use Rattle.std.proofs.lemmas.List.Elements.{All-append, All-nil, All-push}
pub use Rattle.std.proofs.lemmas.Result.{on_ok_weaker as OnOk-weaker}
use Rattle.quorum_sets.specs.Ids.{Ids, size, union}
use Rattle.conf_change.specs.Configuration.{Configuration, is_joint, has_voter, is_same}
use Rattle.conf_change.specs.declared.step.Step.{Step}
use Rattle.conf_change.specs.declared.step.Step.TheVariants.{LeaveJoint}
use Rattle.conf_change.proofs.Offered.{is_empty-no_ids}
use Rattle.conf_plan.specs.Run.{IsValidWithVoter}
use Rattle.conf_plan.specs.PlanSteps.{HasU64Ids}
use Rattle.conf_plan.specs.PathBy.{from_single_by, path_by}
use Rattle.conf_plan.specs.declared.strategy.Strategy.{Strategy}
use Rattle.conf_plan.specs.Planned.{single_with}
use Rattle.conf_plan.specs.AddedSteps.{IsAdded}
use Rattle.conf_plan.proofs.FindingMoves.ResultingConfiguration.{IsSingle, single_with-own}

pub has_voter-from_count : (c : Configuration) (n : ℕ) → n ≡ size c.incoming → (n ≡ 0 → ⊥) → has_voter c ≡ true
has_voter-from_count c n is some = ap not (ne_eqb (size c.incoming) 0 (λ none. some (omega (arith, is, none))))

-- ---- from a configuration that is not joint
pub single_with-is_single : (voters learners : Ids) → IsValidWithVoter (single_with voters learners) → IsSingle (single_with voters learners)
single_with-is_single voters learners valid_with_voter = record { valid_with_voter = valid_with_voter; single = ap not is_empty-no_ids }

-- ---- the plan
pub path_by-single : (strategy : Strategy) (down : Ids) (now target : Configuration) → IsSingle now → is_same now target ≡ false
    → path_by strategy down now target ≡ from_single_by strategy down (single_with now.incoming now.learners) target
path_by-single strategy down now target single other = grind (arith, cond-false, single_with-own)

pub path_by-leaving : (strategy : Strategy) (down : Ids) (now target : Configuration) → is_joint now ≡ true → is_same now target ≡ false
    → path_by strategy down now target ≡ LeaveJoint ∷ from_single_by strategy down (single_with now.incoming (union now.learners now.learners_next)) target
path_by-leaving strategy down now target joint other = cond-false (is_same now target) _ _ other ∙ cond-true (is_joint now) _ _ joint

pub own-is_valid : (now : Configuration) → IsSingle now → IsValidWithVoter (single_with now.incoming now.learners)
own-is_valid now single = subst IsValidWithVoter (sym (single_with-own now single)) single.valid_with_voter

-- ---- steps that are added
pub added-leave : (before after : List Step) → after ≡ before ++ LeaveJoint ∷ [] → IsAdded before (LeaveJoint ∷ []) after
added-leave before after e = record { whole = e; u64_ids = All-push HasU64Ids [] LeaveJoint (All-nil HasU64Ids) (All-nil _) }

pub added-more : (before xs between ys after : List Step) → IsAdded before xs between → IsAdded between ys after → IsAdded before (xs ++ ys) after
added-more before xs between ys after first second = record {
  whole = second.whole ∙ ap (λ steps. steps ++ ys) first.whole ∙ append_assoc before xs ys;
  u64_ids = All-append HasU64Ids xs ys first.u64_ids second.u64_ids;
}
