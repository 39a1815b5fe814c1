-- what contracts promise
pub mod Words
pub mod Signs
pub mod Forms
pub mod Lists
pub mod JsonText
pub mod Strings
