-- The root of the proofs.
pub mod Words
pub mod Found
