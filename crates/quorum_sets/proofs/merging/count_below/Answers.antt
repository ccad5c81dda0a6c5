use Rattle.std.proofs.Common.{◌≡◌, get_or, map, sym, ap, ◌∙◌, arith, below_more}
use Rattle.std.proofs.lemmas.List.{get_or-map}
use Rattle.quorum_sets.proofs.merging.count_below.Goals as goal

pub loop-position-preserved : goal.loop-position-preserved
loop-position-preserved g c =
    let here : get_or (map g.T.Item.key c.args.items.now) c.loop-position.position 0 ≡ c.id.result =
    get_or-map g.T.Item.key c.args.items.now c.loop-position.position _ 0 c.loop-position-test.true ∙ sym (ap g.T.Item.key c.index-items-position.is) ∙ sym c.id.ensures in
    below_more _ _ c.loop-position.invariant (omega (arith, here, c.if-id.false))
