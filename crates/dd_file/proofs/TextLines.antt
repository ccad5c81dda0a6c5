-- The lines of a text, and what is at their ends.

pub mod EndPositions
pub mod TextAfter
pub mod CutAgain
pub mod LastNewlines
pub mod BlankLine
pub mod CarriageReturns
pub mod EqualButReturns
