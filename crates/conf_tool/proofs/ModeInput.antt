-- The input of a mode: where it is, and what ends it.

pub mod PositionReached
pub mod Faults
