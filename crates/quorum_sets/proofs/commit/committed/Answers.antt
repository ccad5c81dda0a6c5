use Rattle.std.proofs.Common.{arith}
use Rattle.quorum_sets.proofs.Quorums.CommittedIndex.{committed_index-acked}
use Rattle.quorum_sets.proofs.commit.committed.Goals as goal

pub returns-clause-index : goal.returns-clause-index
returns-clause-index g c = grind (arith, committed_index-acked, c.committed_of.ensures.index, c.as_slice.ensures, c.in_ok-gather.ensures.items)
