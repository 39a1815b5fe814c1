-- what contracts promise
pub mod Nodes
pub mod DiffText
-- what bodies use
pub mod Sides
