use Rattle.std.proofs.Common.{sym, ◌∙◌}
use Rattle.quorum_sets.specs.Votes.{both}
use Rattle.quorum_sets.proofs.Quorums.VoteResults.{joint_vote_result-both}
use Rattle.quorum_sets.proofs.voting.joint_vote.Goals as goal

pub returns : goal.returns
returns g c =
    c.joint_result.ensures.both
    ∙ (λ i. both (c.vote.ensures i) (c.vote-2.ensures i))
    ∙ sym (joint_vote_result-both (g.S.MemberSet.ids c.args.incoming.now) (g.S.MemberSet.ids c.args.outgoing.now) (g.V.VoteSource.votes c.args.votes.now))
