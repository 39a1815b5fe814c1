-- what contracts promise
pub mod Changes
-- what bodies use
pub mod Cuts
