-- what contracts promise
pub mod Words
pub mod Drained
pub mod Told
-- what bodies use
pub mod Parts
