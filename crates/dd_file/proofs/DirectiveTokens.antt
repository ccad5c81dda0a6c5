-- The parts of a directive: its arguments and their values, and its input.

pub mod ListedValues
pub mod ArgumentsSoFar
pub mod Keys
