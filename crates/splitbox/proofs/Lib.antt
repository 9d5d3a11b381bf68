-- The root of the proofs.
pub mod Places
pub mod Back
pub mod OneReply
