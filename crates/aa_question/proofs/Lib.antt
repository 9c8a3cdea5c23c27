pub mod Answered
pub mod Fronts
pub mod Json
pub mod Lists
pub mod Members
pub mod Rows
