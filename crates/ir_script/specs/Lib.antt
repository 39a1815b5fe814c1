-- what contracts promise
pub mod Command
pub mod Script
pub mod Within
pub mod Order
-- what bodies use
pub mod Steps
