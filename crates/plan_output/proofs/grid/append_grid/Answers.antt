use Rattle.std.proofs.Common.{flat_map, arith}
use Rattle.std.proofs.lemmas.List.{take_all}
use Rattle.plan_output.proofs.grid.append_grid.Goals as goal

pub returns : goal.returns
returns c = grind (arith, flat_map, take_all, c.loop-row.invariant, c.loop-row-test.false, c.in_ok-widths.ensures.widths)
