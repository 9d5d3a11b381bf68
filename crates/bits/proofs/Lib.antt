-- The root of the proofs.
pub mod Sides
pub mod Stored
