-- The root of the specs.
pub mod Lone
pub mod Lowering
