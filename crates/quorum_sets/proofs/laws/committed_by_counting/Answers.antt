use Rattle.quorum_sets.specs.Committed.{committed_index}
use Rattle.quorum_sets.proofs.Quorums.CommittedIndex.{IsCommitted-committed_index, IsCommitted-alone}
use Rattle.quorum_sets.proofs.laws.committed_by_counting.Goals as goal

pub returns-clause-fits : goal.returns-clause-fits
returns-clause-fits c = IsCommitted-committed_index

pub returns-clause-alone : goal.returns-clause-alone
returns-clause-alone c ids acks k fits = IsCommitted-alone ids acks k (committed_index ids acks) fits (IsCommitted-committed_index ids acks)
