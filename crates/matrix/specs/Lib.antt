-- The root of the specs.
pub mod Square
pub mod Checking
pub mod Distances
