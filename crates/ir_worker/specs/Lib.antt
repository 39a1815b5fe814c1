-- what contracts promise
pub mod Account
pub mod Acts
pub mod Outcomes
pub mod Same
pub mod Seen
pub mod Turns
pub mod Wires
-- what bodies use
pub mod Ends
pub mod Passed
