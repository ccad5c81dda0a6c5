use Rattle.std.proofs.Common.{◌≡◌, ◌<◌, ◌^◌, take}
use Rattle.plan_output.specs.Grid as grid
use Rattle.plan_output.proofs.grid.width.Given as goal

abbrev pub invariant-loop-row : goal.invariant-loop-row
invariant-loop-row l = record {
  width : l.width ≡ grid.width (take l.row-index l.rows) l.column;
  small : l.width < 2 ^ 63;
}
