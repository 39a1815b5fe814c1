-- what contracts promise
pub mod Faults
pub mod Kept
pub mod Paths
pub mod View
-- what bodies use
pub mod Reached
