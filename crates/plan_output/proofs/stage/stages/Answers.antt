use Rattle.std.proofs.Common.{drop, arith}
use Rattle.std.proofs.lemmas.List.{drop_all, drop_more}
use Rattle.plan_output.proofs.StagesOnTheWay.{stages_after-next}
use Rattle.plan_output.proofs.stage.stages.Goals as goal

pub loop-step-preserved : goal.loop-step-preserved
loop-step-preserved c = grind (arith, drop_more, drop, stages_after-next, c.loop-step-test.true, c.step-item.is, c.in_ok-push.ensures.items, c.in_ok-next.ensures, c.loop-step.invariant)

pub returns : goal.returns
returns c = grind (arith, drop_all, c.in_ok-push-2.ensures.items, c.loop-step-test.false, c.loop-step.invariant, c.as_slice-step-items.ensures.steps)
