-- Each step keeps the invariants.
pub mod OneServer
pub mod Campaign
pub mod GrantVote
pub mod BecomeLeader
pub mod OneLeader
pub mod Receive
pub mod Commit
