-- what contracts promise
pub mod Words
pub mod Looks
pub mod Heads
pub mod Tables
pub mod Texts
