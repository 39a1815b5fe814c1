pub mod Scripts
pub mod StepsWithin
pub mod Lines
pub mod Orders
