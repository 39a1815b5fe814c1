-- what contracts promise
pub mod Bounds
pub mod Around
pub mod Near
pub mod Reaches
pub mod Rows
pub mod Plans
pub mod Detours
-- what bodies use
pub mod Blocks
pub mod Entries
pub mod Searches
pub mod Words
