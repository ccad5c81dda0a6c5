-- Memory and disk apart: what servers do in memory stays allowed until it is saved, each action keeps the invariants of
-- etcd's rules on disk, and what follows.

pub mod Memory
pub mod Invariants
pub mod Actions
pub mod Theorem
