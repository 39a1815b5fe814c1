-- what contracts promise
pub mod Reading
pub mod Writing
pub mod Pouring
pub mod Texts
-- what bodies use
pub mod Room
