pub mod Stages
pub mod Steps
pub mod Grid
pub mod Names
pub mod Table
pub mod Json
pub mod Output
pub mod CarriedOut
