use Rattle.std.proofs.Common.{length, replicate, append_assoc, arith}
use Rattle.plan_output.proofs.GridLines.{cells_text-one_more, cell_text-appended}
use Rattle.plan_output.proofs.grid.append_cells.Goals as goal

pub loop-column-preserved : goal.loop-column-preserved
loop-column-preserved c = grind (arith, length, replicate, cell_text-appended, append_assoc, cells_text-one_more, c.saturating_sub.ensures, c.cell-cell.ensures.cell, c.in_ok-append-2.ensures.ok, c.in_ok-append_times.ensures.ok, c.in_ok-append.ensures.ok, c.loop-column.invariant, c.len-column-end.ensures)
