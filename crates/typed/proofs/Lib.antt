pub mod Texts
pub mod Entries
pub mod Body
pub mod Completed
