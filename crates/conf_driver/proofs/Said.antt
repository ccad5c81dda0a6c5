-- What an answer says at a moment.
use Rattle.std.proofs.Common.{◌≡◌, true, [], ◌∷◌, ap, ◌∙◌, inl, inr}
use Rattle.std.proofs.lemmas.Bool.{both_ways, cases_Bool, cond-false, cond-true}
use Rattle.quorum_sets.specs.Ids.{Ids}
use Rattle.conf_change.specs.Configuration.{Configuration, is_joint, is_same, is_valid}
use Rattle.conf_change.specs.Outcome.{after_leave}
use Rattle.conf_change.specs.declared.step.Step.TheVariants.{LeaveJoint}
use Rattle.conf_change.proofs.Offered.{ValidByMember-from_is_valid}
use Rattle.conf_plan.specs.OneChangeEach.{one_change_each}
use Rattle.conf_plan.specs.PathBy.{from_single_by}
use Rattle.conf_plan.specs.declared.strategy.Strategy.{Strategy}
use Rattle.conf_driver.specs.Next.{next_of, situation}
use Rattle.conf_driver.specs.Proposals.{CanAnswer}
use Rattle.conf_driver.specs.Situation.{has_step}
use Rattle.conf_driver.specs.View.{ViewState}
use Rattle.conf_driver.specs.declared.action.Action.{Action}
use Rattle.conf_driver.proofs.Answered.{Says}
use Rattle.conf_driver.proofs.AnswersSay.{LeavesFirst, says}
use Rattle.conf_driver.proofs.Moments.{AreKept, IsOfMembers-from_view}
use Rattle.conf_driver.proofs.Ways.{steps_to}

-- a configuration with auto-leave is joint, and a joint one that is not the target is left first
LeavesFirst-from_view : (strategy : Strategy) (target : Configuration) (down : Ids) (view : ViewState) → is_valid view.conf_state ≡ true
    → LeavesFirst (situation strategy target down view) (steps_to strategy target down view.conf_state)
LeavesFirst-from_view strategy target down view valid some leaves =
    let now = view.conf_state in
    let more = from_single_by strategy down (after_leave now) target in
    let joint : is_joint now ≡ true = elim (cases_Bool (is_joint now)) [
      | inl joint ↦ joint
      | inr single ↦ absurd (both_ways _ ((ValidByMember-from_is_valid now valid).auto_leave single) leaves)
    ] in
    elim (cases_Bool (is_same now target)) [
      | inl same ↦ absurd (both_ways _ (ap (λ path. has_step (one_change_each path)) (cond-true (is_same now target) [] _ same)) some)
      | inr differs ↦ (one_change_each more, ap one_change_each (cond-false (is_same now target) _ _ differs ∙ cond-true (is_joint now) (LeaveJoint ∷ more) (from_single_by strategy down now target) joint))
    ]

pub said : AreKept → (strategy : Strategy) (target : Configuration) (down : Ids) (view : ViewState) (answer : Action) → CanAnswer strategy target view → next_of strategy target down view ≡ answer
    → Says (situation strategy target down view) (steps_to strategy target down view.conf_state) answer
said kept strategy target down view answer can is =
    says (situation strategy target down view) (steps_to strategy target down view.conf_state) answer kept.counted (IsOfMembers-from_view kept strategy target down view can) (ValidByMember-from_is_valid view.conf_state can.valid_now.valid)
    (LeavesFirst-from_view strategy target down view can.valid_now.valid) is
