use Rattle.std.proofs.Common.{arith}
use Rattle.std.proofs.lemmas.Option.{gets}
use Rattle.quorum_sets.specs.Ids.{ascending}
use Rattle.quorum_sets.proofs.Quorums.Counts.{count_by-one_more}
use Rattle.quorum_sets.proofs.counting.count_where.Goals as goal
use Rattle.quorum_sets.proofs.counting.count_where.Goals.{in-Some, in_default}

pub loop-position-preserved : goal.loop-position-preserved
loop-position-preserved g c = elim c.match-at.branch [
  | in-Some w ↦ record {
    counted = λ passes answers.
        let step = count_by-one_more passes (ascending (g.S.MemberSet.ids c.args.set.now)) c.loop-position.position w.in-Some.id in
        grind (arith, w.count-is, w.from-count.ensures, answers _ _ w.test.ensures, step, c.loop-position.invariant.counted passes answers);
    small = grind (arith, w.count-is, w.from-count.ensures, c.loop-position.invariant.small);
  }
  | in_default w ↦ grind (arith, gets)
]
