-- what contracts promise
pub mod Views
pub mod Relaxation
pub mod Errors
pub mod Listed
pub mod FromNode
-- what bodies use
pub mod Rows
pub mod Numbered
pub mod ByPlace
pub mod Keys
