-- what contracts promise
pub mod Tables
pub mod PrefixesText
pub mod Sent
pub mod RangesText
pub mod LinesText
pub mod OrderText
pub mod Ports
pub mod Names
pub mod Around
pub mod Circle
pub mod Ring
-- what bodies use
pub mod Before
pub mod NodeTexts
