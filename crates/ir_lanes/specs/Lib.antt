-- what contracts promise
pub mod Views
pub mod Outward
pub mod Inward
pub mod Marks
-- what bodies use
pub mod Lanes
pub mod Equation
