mod Actions
mod Lines
mod NoFloats
mod ProposedSteps
mod Questions
mod WorkedExamples
