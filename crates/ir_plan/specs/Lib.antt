-- what contracts promise
pub mod Refusals
pub mod Building
pub mod Crew
pub mod Shown
pub mod NodeRows
pub mod Views
pub mod TreeRows
pub mod CompactRows
pub mod LandmarkRows
pub mod Tour
pub mod Starts
pub mod Distances
-- what bodies use
pub mod Ties
pub mod Prepared
pub mod SonStarts
