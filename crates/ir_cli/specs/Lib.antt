-- what contracts promise
pub mod Kinds
pub mod Words
pub mod CommandLine
pub mod Meaning
pub mod Refusals
pub mod Cut
pub mod Lines
pub mod Notices
pub mod Answer
pub mod Replies
pub mod Openings
pub mod Replied
pub mod Ending
pub mod Reading
pub mod Told
-- what bodies use
pub mod Typed
pub mod Taking
