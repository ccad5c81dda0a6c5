use Rattle.quorum_sets.proofs.Quorums.Overlap.{QuorumsMeet-from_neighbours, QuorumsMeet-from_neighbours_back}
use Rattle.quorum_sets.proofs.laws.neighbours_overlap.Goals as goal

pub returns : goal.returns
returns c = record { before = QuorumsMeet-from_neighbours; after = QuorumsMeet-from_neighbours_back }
