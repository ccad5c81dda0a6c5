use Rattle.std.proofs.Common.{ap, ◌∙◌, arith, take_all}
use Rattle.std.specs.Prelude.{count_by}
use Rattle.std.proofs.lemmas.Option.{gets}
use Rattle.quorum_sets.specs.Ids.{has, ascending}
use Rattle.quorum_sets.proofs.Quorums.Counts.{count_by-one_more}
use Rattle.quorum_sets.proofs.IdSets.Difference.{count_of-within}
use Rattle.quorum_sets.proofs.difference.common_count.Goals as goal
use Rattle.quorum_sets.proofs.difference.common_count.Goals.{in-Some, in_default}

pub loop-position-preserved : goal.loop-position-preserved
loop-position-preserved g c = elim c.match-at.branch [
  | in-Some w ↦ grind (arith, gets, count_by-one_more (has (g.S.MemberSet.ids c.args.b.now)) (ascending (g.S.MemberSet.ids c.args.a.now)) c.loop-position.position w.in-Some.id)
  | in_default w ↦ grind (arith, gets)
]

pub returns-clause-within_other : goal.returns-clause-within_other
returns-clause-within_other g c =
    let a = g.S.MemberSet.ids c.args.a.now in
    let b = g.S.MemberSet.ids c.args.b.now in
    count_of-within a b c.loop-position.count (c.loop-position.invariant.counted ∙ ap (count_by (has b)) (take_all c.loop-position.position (ascending a) (omega arith)))
