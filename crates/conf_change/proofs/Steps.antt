-- Steps: which are accepted, what a call owes that makes one, and what each keeps.

pub mod Acceptance
pub mod OwedByCalls
pub mod ChangerAfter
pub mod Soundness
pub mod EmptyTracker
pub mod OneChange
pub mod Moved
