pub mod Telling
pub mod Decided
