use Rattle.std.proofs.Common.{◌≡◌, ℕ, ◌<◌, ◌^◌, get_or, length}
use Rattle.plan_output.specs.Grid.{width}
use Rattle.plan_output.proofs.grid.widths.Given as goal

abbrev pub invariant-loop-column : goal.invariant-loop-column
invariant-loop-column l = record {
  reached : length l.widths.items ≡ l.column;
  widths : (column : ℕ) → column < l.column → get_or l.widths.items column 0 ≡ width l.rows column;
  small : (column : ℕ) → get_or l.widths.items column 0 < 2 ^ 63;
}
