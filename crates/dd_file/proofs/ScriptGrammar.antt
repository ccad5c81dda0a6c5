-- What the grammar of scripts makes of lines: the first item, and all items.

pub mod Cuts
pub mod MoreLines
pub mod LinesOfItem
pub mod GivenItems
pub mod AllItems
pub mod CallAfterCall
pub mod JoinedItems
