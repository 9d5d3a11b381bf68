pub mod Ways
pub mod Demand3
pub mod Demand1
pub mod Growing
pub mod Trees
pub mod Records
pub mod Spare
pub mod Pairs
