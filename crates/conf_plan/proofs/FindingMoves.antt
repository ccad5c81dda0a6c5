-- The moves from one configuration to another.

pub mod OfEachId
pub mod ResultingConfiguration
pub mod AscendingIds
