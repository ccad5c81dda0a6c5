-- The rules as etcd means them: their invariants, that each action keeps them, and what follows.

pub mod Invariants
pub mod CoreSteps
pub mod Growth
pub mod ServerActions
pub mod LeaderActions
pub mod Theorem
