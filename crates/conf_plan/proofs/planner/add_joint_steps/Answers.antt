use Rattle.std.proofs.Common.{sym, ap, subst, ◌∙◌}
use Rattle.conf_change.specs.Configuration.{is_same_set}
use Rattle.conf_plan.specs.Run.{IsValidWithVoter}
use Rattle.conf_plan.proofs.FindingMoves.ResultingConfiguration.{IsSingle}
use Rattle.conf_plan.proofs.PlannedSteps.Cases.{OnOk-weaker, single_with-is_single, added-more}
use Rattle.conf_plan.proofs.PlannedSteps.Shapes.{joint_steps-inserted}
use Rattle.conf_plan.proofs.planner.add_joint_steps.Goals as goal

pub returns : goal.returns
returns g c =
    let start = c.args.start.now in
    let single = subst IsSingle c.start.view_is (single_with-is_single _ _ (subst IsValidWithVoter (sym c.start.view_is) c.requires.start)) in
    let out = ap (λ d. d.outgoing) c.target.view_is in
    let differs = (λ i. is_same_set (sym c.start.view_is i).incoming (sym out i)) ∙ sym c.has_same_ids.ensures ∙ c.if-has_same_ids.false in
    rw (joint_steps-inserted start c.args.target.now single c.requires.target c.requires.joint differs, ← c.in_ok-shared.ensures, ← out)
    (OnOk-weaker c.add_entering_step-2.result (added-more _ _ _ _ _ c.in_ok-add_single_steps.ensures) c.add_entering_step-2.ensures)
