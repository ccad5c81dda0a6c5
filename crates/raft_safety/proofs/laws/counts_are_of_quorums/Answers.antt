use Rattle.raft_safety.proofs.Library.{HasQuorum-won, HasQuorum-committed}
use Rattle.raft_safety.proofs.laws.counts_are_of_quorums.Goals as goal

pub returns-clause-votes : goal.returns-clause-votes
returns-clause-votes c = HasQuorum-won

pub returns-clause-acknowledgements : goal.returns-clause-acknowledgements
returns-clause-acknowledgements c = HasQuorum-committed c.committed_by_counting.ensures.fits
