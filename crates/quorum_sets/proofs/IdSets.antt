-- Sets of ids by their members, whatever keeps them.

pub mod Members
pub mod Union
pub mod Difference
pub mod WrittenOut
