-- what contracts promise
pub mod Row
pub mod Rows
pub mod Written
pub mod Codes
pub mod Reading
pub mod Outlet
pub mod Again
pub mod Checked
pub mod Inspect
pub mod SoundRows
pub mod Sound
pub mod Judged
pub mod Leaving
-- what bodies use
pub mod Spelled
pub mod Line
pub mod Stretches
