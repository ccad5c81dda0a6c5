-- The arguments of the command line.
pub mod IdParts
