pub mod Offered
mod Steps
mod ListsOfChanges
mod MemberProgress
mod SetWalks
mod Configurations
mod WorkedExamples
mod Texts
