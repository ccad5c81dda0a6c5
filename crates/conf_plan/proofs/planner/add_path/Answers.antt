use Rattle.std.proofs.Common.{[], ◌∷◌, sym, ◌∙◌}
use Rattle.conf_change.specs.declared.step.Step.TheVariants.{LeaveJoint}
use Rattle.conf_plan.proofs.PlannedSteps.Cases.{OnOk-weaker, path_by-single, path_by-leaving, own-is_valid, added-leave, added-more}
use Rattle.conf_plan.proofs.PlannedSteps.Shapes.{after_leave-is_single}
use Rattle.conf_plan.proofs.planner.add_path.Goals as goal

pub add_from_single_by-requires-clause-start : goal.add_from_single_by-requires-clause-start
add_from_single_by-requires-clause-start g c =
    rw (← c.now.view_is, ← c.in_ok-learners.ensures) at (after_leave-is_single c.args.now.now c.requires.now (sym c.is_joint.ensures ∙ c.if-is_joint.true)).valid_with_voter

pub returns-then-is_joint : goal.returns-then-is_joint
returns-then-is_joint g c =
    rw (
      path_by-leaving c.args.strategy (g.S.MemberSet.ids c.args.down.now) c.args.now.now c.args.target.now (sym c.is_joint.ensures ∙ c.if-is_joint.true) c.requires.other,
      ← c.now.view_is,
      ← c.in_ok-learners.ensures,
    )
    (OnOk-weaker c.add_from_single_by.result (added-more _ (LeaveJoint ∷ []) _ _ _ (added-leave _ _ c.in_ok-push.ensures.items)) c.add_from_single_by.ensures)

pub add_from_single_by-requires-2-clause-start : goal.add_from_single_by-requires-2-clause-start
add_from_single_by-requires-2-clause-start g c =
    rw (← c.now.view_is) at (own-is_valid c.args.now.now (record { valid_with_voter = c.requires.now; single = sym c.is_joint.ensures ∙ c.if-is_joint.false }))

pub returns : goal.returns
returns g c =
    rw (
      path_by-single c.args.strategy (g.S.MemberSet.ids c.args.down.now) c.args.now.now c.args.target.now
          (record { valid_with_voter = c.requires.now; single = sym c.is_joint.ensures ∙ c.if-is_joint.false }) c.requires.other,
      ← c.now.view_is,
    )
    c.add_from_single_by-2.ensures
