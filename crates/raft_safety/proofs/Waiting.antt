-- Waiting is enough: whoever counts then has at most one change of the voters in its log beyond what it counts by, so that each
-- action is one of Steps.antt, or keeps the invariants as one does.

pub mod Changes
pub mod Keeps
pub mod Theorem
pub mod OnDisk
