-- what contracts promise
pub mod Codes
pub mod Numbering
pub mod Views
pub mod Cells
pub mod Laws
-- what bodies use
pub mod Search
pub mod Sizes
