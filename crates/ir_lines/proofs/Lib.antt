pub mod Levels
pub mod Found
pub mod Leads
pub mod Reaches
pub mod ByteLemmas
pub mod Tables
pub mod Texts
