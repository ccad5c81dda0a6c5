-- The voters of a configuration, by member.
use Rattle.quorum_sets.proofs.Offered.{has-union}

-- an id is in a union if it is in one of the sets
pub ruleset union_steps = (has-union)
