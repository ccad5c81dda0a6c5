pub mod Offered
mod Changes
mod JsonTexts
mod Keys
mod NoFloats
mod Proposals
mod SavedConfigurations
mod WorkedExamples
