-- what contracts promise
pub mod Told
pub mod Written
pub mod RoundTrip
-- what bodies use
pub mod Steps
pub mod Writing
