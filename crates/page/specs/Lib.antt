-- what contracts promise
pub mod Calls
pub mod Kept
