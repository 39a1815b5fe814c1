-- what contracts promise
pub mod Asked
pub mod Held
pub mod Naming
pub mod Sentences
