pub mod Offered
mod AppendedTexts
mod WhiteSpace
mod TokenLemmas
mod LineEnds
mod FullLines
mod NumberLemmas
mod SplitTexts
mod Digits
