pub mod Sorts
pub mod Outlines
pub mod Each
pub mod Parting
pub mod Skipping
pub mod Texts
