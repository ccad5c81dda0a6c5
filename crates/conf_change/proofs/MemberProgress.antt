-- The members and their progress, as a map whose entries rise.

pub mod Entries
pub mod OfEachId
pub mod Filtered
pub mod Acknowledged
