-- The root of the proofs.
pub mod Lowering
pub mod Trials
