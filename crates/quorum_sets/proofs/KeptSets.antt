-- How a set is kept: an ascending list, or a tree.

pub mod AscendingList
pub mod Merged
pub mod Positions
pub mod Tree
