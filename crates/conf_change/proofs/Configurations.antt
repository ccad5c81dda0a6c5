-- Configurations: when one is valid, when two are the same, and which one four lists describe.

pub mod Validity
pub mod Equality
pub mod DescribedByLists
pub mod Violations
