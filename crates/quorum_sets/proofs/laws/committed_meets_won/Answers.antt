use Rattle.quorum_sets.proofs.Quorums.Overlap.{CommittedMeetsWon-from_neighbours, CommittedMeetsWon-from_neighbours_back}
use Rattle.quorum_sets.proofs.laws.committed_meets_won.Goals as goal

pub returns : goal.returns
returns c = record { before = CommittedMeetsWon-from_neighbours; after = CommittedMeetsWon-from_neighbours_back }
