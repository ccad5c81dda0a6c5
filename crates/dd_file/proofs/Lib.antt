pub mod Offered
mod DirectiveTokens
mod WorkedExamples
mod Rewriting
mod TextLines
mod ScriptGrammar
mod Reading
