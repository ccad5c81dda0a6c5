-- What the invariants say of one state.
pub mod OneLeader
pub mod CommittedChain
pub mod OneBehind
pub mod CompleteLeaders
pub mod OneElection
pub mod KnownCommitted
pub mod LedTerms
