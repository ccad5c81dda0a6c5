pub mod Texts
pub mod Values
pub mod Question
pub mod Answer
