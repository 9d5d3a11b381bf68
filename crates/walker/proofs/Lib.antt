-- The root of the proofs.
pub mod Stepping
pub mod Apart
