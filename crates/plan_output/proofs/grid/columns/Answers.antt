use Rattle.std.proofs.Common.{◌≡◌, max, length, [], ap, ◌∙◌, arith}
use Rattle.std.proofs.lemmas.List.{get_or_past}
use Rattle.plan_output.proofs.GridLines.{width-one_more}
use Rattle.plan_output.proofs.grid.columns.Goals as goal

pub loop-row-preserved : goal.loop-row-preserved
loop-row-preserved c = λ column past.
    let more : c.max-columns.result ≡ max c.loop-row.columns (length c.row-item.result) = c.max-columns.ensures ∙ ap (max c.loop-row.columns) c.len.ensures in
    width-one_more c.args.rows.now c.loop-row.row-index column c.row-item.result c.loop-row-test.true c.row-item.is
    ∙ (λ k. max (c.loop-row.invariant column (omega arith) k) (length (get_or_past c.row-item.result column [] (omega arith) k)))
