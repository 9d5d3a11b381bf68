-- The root of the proofs.
pub mod Signs
pub mod Checks
