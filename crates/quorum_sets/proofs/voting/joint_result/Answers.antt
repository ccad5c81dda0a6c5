use Rattle.std.proofs.Common.{sym, ap, ◌∙◌}
use Rattle.quorum_sets.specs.Votes.{both}
use Rattle.quorum_sets.proofs.Quorums.VoteResults.{joint_vote_of-both, both-won}
use Rattle.quorum_sets.proofs.voting.joint_result.Goals as goal

pub returns-in-VoteWon-default-clause-listed : goal.returns-in-VoteWon-default-clause-listed
returns-in-VoteWon-default-clause-listed c first second one two =
    sym (ap (λ v. both v c.args.outgoing) c.in-VoteWon-default.is-0) ∙ (λ i. both (one i) (two i)) ∙ sym (joint_vote_of-both first second)

pub returns-in-VoteWon-default-3-clause-listed : goal.returns-in-VoteWon-default-3-clause-listed
returns-in-VoteWon-default-3-clause-listed c first second one two =
    sym (both-won c.args.incoming) ∙ sym (ap (both c.args.incoming) c.in-VoteWon-default.is-1) ∙ (λ i. both (one i) (two i)) ∙ sym (joint_vote_of-both first second)
