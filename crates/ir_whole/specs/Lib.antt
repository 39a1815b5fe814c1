-- what contracts promise
pub mod Whole
pub mod Injects
pub mod Causes
pub mod Codes
-- what bodies use
pub mod Judged
