use Rattle.std.proofs.Common.{sym, rules, ◌<◌}
use Rattle.quorum_sets.proofs.KeptSets.Positions.{ascending-above_last}
use Rattle.quorum_sets.proofs.lookup.is_above.Goals as goal

pub returns-in-Some : goal.returns-in-Some
returns-in-Some g c = λ is.
    let lt : c.in-Some.last < c.args.id = search rules in
    ascending-above_last (g.S.MemberSet.ids c.args.set.now) c.args.id c.args.position c.in-Some.last (sym c.in-Some.ensures) lt
