-- what contracts promise
pub mod Lives
pub mod Asked
