mod Gathering
pub mod Rows
