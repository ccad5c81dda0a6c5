-- Majorities: what they have reached, what they vote, and that they meet.

pub mod Counts
pub mod CommittedIndex
pub mod SortedRows
pub mod ChartBars
pub mod VoteResults
pub mod Overlap
pub mod Tolerance
