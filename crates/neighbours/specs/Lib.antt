-- The root of the specs.
pub mod Reach
pub mod Near
pub mod Seen
