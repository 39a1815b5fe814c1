pub mod Numbers
pub mod Steps
pub mod Leads
pub mod Counted
