-- Walks over the ids of a set.

pub mod FindId
