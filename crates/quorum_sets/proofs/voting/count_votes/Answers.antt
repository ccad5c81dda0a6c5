use Rattle.std.proofs.Common.{arith}
use Rattle.std.proofs.lemmas.Option.{gets}
use Rattle.quorum_sets.specs.Ids.{ascending}
use Rattle.quorum_sets.specs.Votes.{is_yes, may_be_yes}
use Rattle.quorum_sets.proofs.Quorums.Counts.{count_by-one_more}
use Rattle.quorum_sets.proofs.voting.count_votes.Goals as goal
use Rattle.quorum_sets.proofs.voting.count_votes.Goals.{in-Some, in_default}

pub loop-position-preserved : goal.loop-position-preserved
loop-position-preserved g c = elim c.match-at.branch [
  | in-Some w ↦
      let votes = g.V.VoteSource.votes c.args.votes.now in
      let ids = ascending (g.S.MemberSet.ids c.args.set.now) in
      grind (arith, count_by-one_more (is_yes votes) ids c.loop-position.position w.in-Some.id, count_by-one_more (may_be_yes votes) ids c.loop-position.position w.in-Some.id)
  | in_default w ↦ grind (arith, gets)
]
