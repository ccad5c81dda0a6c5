-- What a mode does with its input, part by part.

pub mod Check
pub mod Rewrite
pub mod Next
pub mod Plan
