-- The root of the proofs.
pub mod Decided
pub mod Marks
pub mod Trials
