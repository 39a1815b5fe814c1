-- what contracts promise
pub mod Codes
pub mod Entries
pub mod Handles
pub mod Looks
pub mod Over
pub mod Seats
pub mod Stamps
-- what bodies use
pub mod Chronicle
