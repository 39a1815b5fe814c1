-- what contracts promise
pub mod Longest
pub mod Forwarding
pub mod Ranges
-- what bodies use
pub mod Joined
pub mod Described
pub mod Cover
pub mod Extended
pub mod Runs
pub mod Nodes
pub mod Parts
pub mod Marks
pub mod RangeRuns
