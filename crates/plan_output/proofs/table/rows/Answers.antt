use Rattle.std.proofs.Common.{drop, arith}
use Rattle.std.proofs.lemmas.List.{append-nil, drop_all}
use Rattle.plan_output.proofs.TableRows.{rows_of-next}
use Rattle.plan_output.proofs.table.rows.Goals as goal

pub loop-index-preserved : goal.loop-index-preserved
loop-index-preserved c = grind (arith, drop, rows_of-next, c.in_ok-push-2.ensures.items, c.in_ok-row.ensures, c.in_ok-name.ensures, c.loop-index-test.true, c.index-stages-index.is, c.loop-index.invariant)

pub returns : goal.returns
returns c = grind (arith, append-nil, drop_all, c.loop-index-test.false, c.loop-index.invariant)
