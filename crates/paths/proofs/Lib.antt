pub mod Sums
pub mod ListRows
pub mod ByRows
pub mod Entries
