-- Runs of steps, and changers that take them.

pub mod Chains
pub mod JointEnds
pub mod PartOfEachId
pub mod TakenInOrder
pub mod ChangerAfter
pub mod KeptProgress
