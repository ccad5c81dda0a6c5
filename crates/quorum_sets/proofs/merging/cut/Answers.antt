use Rattle.std.proofs.Common.{sym, ◌∙◌, take_all, drop, arith, length-drop}
use Rattle.quorum_sets.proofs.KeptSets.Merged.{parts-none, parts-other, parts-first}
use Rattle.quorum_sets.proofs.merging.cut.Goals as goal

pub returns-in_default : goal.returns-in_default
returns-in_default g c =
    let parts = parts-none g.T.Item.key c.args.id c.args.items.now c.split_at.result.1.now c.count_below.result c.requires (c.count_below.ensures.below, c.count_below.ensures.next) (sym c.split_at.ensures.back) (c.in_default.ensures ∙ c.first.ensures.value) in
    record { below = c.split_at.ensures.front ∙ parts.below; item = parts.item; above = parts.above }

pub returns-then-id : goal.returns-then-id
returns-then-id g c =
    let parts = parts-other g.T.Item.key c.args.id c.args.items.now c.split_at.result.1.now c.count_below.result c.in-Some.item c.requires (c.count_below.ensures.below, c.count_below.ensures.next) (sym c.split_at.ensures.back) (c.in-Some.ensures ∙ c.first.ensures.value) (λ same. c.if-id.true (c.id.ensures ∙ same)) in
    record { below = c.split_at.ensures.front ∙ parts.below; item = parts.item; above = parts.above }

pub returns : goal.returns
returns g c =
    let parts = parts-first g.T.Item.key c.args.id c.args.items.now c.split_at.result.1.now c.count_below.result c.in-Some.item c.requires (c.count_below.ensures.below, c.count_below.ensures.next) (sym c.split_at.ensures.back) (c.in-Some.ensures ∙ c.first.ensures.value) (sym c.id.ensures ∙ c.if-id.false) in
    record {
      below = c.split_at.ensures.front ∙ parts.below;
      item = parts.item;
      above = take_all _ (drop 1 c.split_at.result.1.now) (omega (arith, length-drop 1 c.split_at.result.1.now)) ∙ parts.above;
    }
