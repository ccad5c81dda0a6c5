-- Scripts that are written, and read again.

pub mod KnownBytes
pub mod PartByPart
pub mod OutputText
pub mod ItemAgain
pub mod ScriptAgain
