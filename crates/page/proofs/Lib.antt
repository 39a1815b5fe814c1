pub mod Calls
pub mod Followed
pub mod Lines
pub mod Refused
pub mod Written
