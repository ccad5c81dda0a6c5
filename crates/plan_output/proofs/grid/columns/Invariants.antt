use Rattle.std.proofs.Common.{◌≡◌, ◌≤◌, ℕ, take}
use Rattle.plan_output.specs.Grid.{width}
use Rattle.plan_output.proofs.grid.columns.Given as goal

abbrev pub invariant-loop-row : goal.invariant-loop-row
invariant-loop-row l = (column : ℕ) → l.columns ≤ column → width (take l.row-index l.rows) column ≡ 0
