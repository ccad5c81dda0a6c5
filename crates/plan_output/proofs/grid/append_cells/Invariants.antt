use Rattle.std.proofs.Common.{◌≡◌, ◌++◌, take}
use Rattle.std.specs.Prelude.{slice_index}
use Rattle.plan_output.specs.Grid.{cells_text}
use Rattle.plan_output.proofs.grid.append_cells.Given as goal

abbrev pub invariant-loop-column : goal.invariant-loop-column
invariant-loop-column l = l.text.items ≡ l.initial.text.items ++ cells_text (slice_index l.widths) 0 (take l.column l.row)
