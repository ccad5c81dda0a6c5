pub mod Offered
mod IdSets
mod KeptSets
mod ListPositions
mod Quorums
mod WorkedExamples
