use Rattle.quorum_sets.proofs.KeptSets.Positions.{has-seen_between}
use Rattle.quorum_sets.proofs.lookup.contains_from.Goals as goal

pub returns-then-is_above : goal.returns-then-is_above
returns-then-is_above g c =
    has-seen_between (g.S.MemberSet.ids c.args.set.now) c.args.id c.seek.new.position
    (c.is_above.ensures c.if-is_above.true) (c.seek.ensures.below c.if-seek.false)
