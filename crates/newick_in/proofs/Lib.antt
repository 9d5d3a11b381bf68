pub mod Records
pub mod TakenUp
