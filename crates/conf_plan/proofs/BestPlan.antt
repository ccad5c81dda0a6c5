-- No run between two configurations is better than the plan.

pub mod Theorem
pub mod FewestSteps
pub mod FewestNames
pub mod PreservedMembers
pub mod PlainChanges
