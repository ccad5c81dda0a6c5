use Rattle.std.proofs.Common.{arith}
use Rattle.plan_output.proofs.TableRows.{ids_on_the_way-one_more}
use Rattle.plan_output.proofs.table.ids_on_the_way.Goals as goal

pub loop-stage-preserved : goal.loop-stage-preserved
loop-stage-preserved c = grind (arith, ids_on_the_way-one_more, c.in_ok-ids.ensures, c.in_ok-members.ensures, c.config.ensures, c.loop-stage-test.true, c.stage-item.is, c.loop-stage.invariant)
