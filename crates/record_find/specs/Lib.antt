-- The root of the specs.
pub mod Taken
pub mod Stretch
pub mod Held
