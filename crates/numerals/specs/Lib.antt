-- The root of the specs.
pub mod Numerals
pub mod Place
