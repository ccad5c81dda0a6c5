-- Worked examples.

pub mod Tokens
pub mod Scripts
pub mod Rewrites
