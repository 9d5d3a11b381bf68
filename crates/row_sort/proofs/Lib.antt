pub mod Sorting
pub mod Inserting
pub mod Refused
