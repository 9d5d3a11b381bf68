pub mod Numbers
pub mod Sizes
pub mod Parses
pub mod Unique
pub mod Figures
pub mod Rest
pub mod Join
