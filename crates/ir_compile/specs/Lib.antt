-- what contracts promise
pub mod Code
pub mod PortBits
pub mod Rounds
pub mod Plain
-- what bodies use
pub mod Runs
pub mod ShortRuns
