pub mod Decimal
pub mod Trip
pub mod Written
