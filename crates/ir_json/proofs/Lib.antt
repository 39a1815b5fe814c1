pub mod Pairs
pub mod Marked
pub mod Again
