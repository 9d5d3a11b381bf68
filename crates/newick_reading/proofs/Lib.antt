pub mod Nested
pub mod Room
pub mod Places
pub mod Same
pub mod Reply
pub mod Ways
pub mod Accepted
pub mod Passing
