-- what contracts promise
pub mod RowBits
pub mod Compactness
pub mod FiguresText
pub mod Waits
pub mod Compared
pub mod Failures
pub mod Arcs
-- what bodies use
pub mod Exits
pub mod Parts
pub mod Columns
pub mod Far
pub mod Made
pub mod Sought
pub mod Search
