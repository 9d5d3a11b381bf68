pub mod Pushed
pub mod Whole
