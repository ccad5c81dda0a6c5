use Rattle.std.proofs.Common.{subst}
use Rattle.conf_change.specs.declared.step.Step.{Step}
use Rattle.conf_plan.specs.OneChangeEach.{each_change}
use Rattle.conf_plan.specs.AddedSteps.{IsAdded}
use Rattle.conf_plan.proofs.OnTheWay.InTurn.{added-item}
use Rattle.conf_plan.proofs.one_change_each.add_one_change_each.Goals as goal

pub loop-step-preserved : goal.loop-step-preserved
loop-step-preserved c =
    let now = c.loop-step in
    let Added : Step → Type 0 = λ step. IsAdded now.steps.items (each_change step) c.add_each_change.new.steps.items in
    added-item each_change _ now.steps.items _ c.args.of.now now.step-index _ c.loop-step-test.true now.invariant (subst Added c.step-item.is c.in_ok-add_each_change.ensures)
