-- The root of the specs.
pub mod Merging
