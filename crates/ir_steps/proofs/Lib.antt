pub mod Answered
pub mod Adding
pub mod Telling
