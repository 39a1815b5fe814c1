-- what contracts promise
pub mod Verdicts
