use Rattle.std.proofs.Common.{max, length, arith}
use Rattle.plan_output.proofs.GridLines.{width-one_more}
use Rattle.plan_output.proofs.grid.width.Goals as goal

pub loop-row-preserved : goal.loop-row-preserved
loop-row-preserved c = grind (arith, max, length, width-one_more, c.max-width.ensures, c.loop-row.invariant.width, c.cell.ensures.cell, c.loop-row-test.true, c.row-item.is, c.cell.ensures.small)
