-- The steps that are planned, case by case.

pub mod Cases
pub mod Shapes
pub mod AlongPath
pub mod BetweenSingle
pub mod IntoJoint
pub mod RunToTarget
