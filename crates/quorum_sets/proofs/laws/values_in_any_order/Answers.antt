use Rattle.std.proofs.Common.{sym, ◌∙◌}
use Rattle.std.specs.Prelude.{min}
use Rattle.quorum_sets.specs.Committed.{acked_indexes}
use Rattle.quorum_sets.proofs.Quorums.CommittedIndex.{committed_of-permuted, committed_index-acked}
use Rattle.quorum_sets.proofs.Quorums.VoteResults.{vote_of-ids, joint_vote_of-voters}
use Rattle.quorum_sets.proofs.laws.values_in_any_order.Goals as goal

pub returns-clause-committed : goal.returns-clause-committed
returns-clause-committed c indexes ids acks are = committed_of-permuted indexes (acked_indexes ids acks) are ∙ sym (committed_index-acked ids acks)

pub returns-clause-joint_committed : goal.returns-clause-joint_committed
returns-clause-joint_committed c incoming outgoing voters acks first second =
    λ i. min (returns-clause-committed c incoming voters.incoming acks first i) (returns-clause-committed c outgoing voters.outgoing acks second i)

pub returns-clause-vote : goal.returns-clause-vote
returns-clause-vote c = vote_of-ids

pub returns-clause-joint_vote : goal.returns-clause-joint_vote
returns-clause-joint_vote c = joint_vote_of-voters
