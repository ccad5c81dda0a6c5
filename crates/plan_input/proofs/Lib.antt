pub mod Offered
mod Forms
mod FormsRead
mod JsonForm
mod Refusals
mod ShownTokens
mod TextItems
mod ValidTargets
mod WorkedExamples
