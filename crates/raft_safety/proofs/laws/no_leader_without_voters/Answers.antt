use Rattle.raft_safety.proofs.NoVoters.{Leads-no_voters}
use Rattle.raft_safety.proofs.laws.no_leader_without_voters.Goals as goal

pub returns : goal.returns
returns c = Leads-no_voters
