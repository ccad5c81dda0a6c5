-- The output of a mode while it is written.

pub mod FirstParts
pub mod MarkedLines
pub mod AppendedItems
