pub mod Source
pub mod Lawful
pub mod Raised
