-- The root of the proofs.
pub mod AddTaxon
pub mod Sources
pub mod Going
pub mod Laws
