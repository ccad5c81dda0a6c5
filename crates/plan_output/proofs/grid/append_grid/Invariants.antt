use Rattle.std.proofs.Common.{◌≡◌, ◌++◌, take, flat_map}
use Rattle.std.specs.Prelude.{slice_index}
use Rattle.plan_output.specs.Grid.{line_of_row}
use Rattle.plan_output.proofs.grid.append_grid.Given as goal

abbrev pub invariant-loop-row : goal.invariant-loop-row
invariant-loop-row l = l.text.items ≡ l.initial.text.items ++ flat_map (line_of_row (slice_index l.widths.items)) (take l.row-index l.rows)
