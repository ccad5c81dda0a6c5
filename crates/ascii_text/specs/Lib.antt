pub mod Append
pub mod WhiteSpace
pub mod Tokens
pub mod Lines
pub mod Number
