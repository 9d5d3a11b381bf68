-- The root of the proofs.
pub mod Stores
pub mod RoundTrip
pub mod Replies
