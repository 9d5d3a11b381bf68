-- The root of the proofs.
pub mod Reaches
pub mod Looks
