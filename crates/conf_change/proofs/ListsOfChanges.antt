-- Lists of changes: what they say of each id, and what they make of a configuration.

pub mod ResultOfEach
pub mod EditOfEach
pub mod EditedTracker
pub mod SortedById
