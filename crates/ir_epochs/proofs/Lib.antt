pub mod Adding
pub mod Fronts
pub mod Lasts
pub mod Made
pub mod Overs
pub mod Rising
pub mod Steps
