-- what contracts promise
pub mod Words
pub mod PlanText
pub mod Intervals
pub mod WalkText
pub mod StatsText
pub mod Figures
pub mod Quoted
pub mod Drawing
pub mod Blocks
pub mod Alone
pub mod Plans
pub mod SpanText
-- what bodies use
pub mod Before
pub mod Held
pub mod Stops
pub mod SpanLines
