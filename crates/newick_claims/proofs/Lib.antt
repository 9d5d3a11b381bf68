pub mod Places
pub mod Checks
pub mod Replies
pub mod Lists
