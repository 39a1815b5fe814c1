pub mod Given
pub mod Tried
pub mod Sent
pub mod Poured
mod TextLemmas
