-- what bodies use
pub mod ByHand
