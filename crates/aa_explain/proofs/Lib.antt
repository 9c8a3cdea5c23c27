pub mod Bits
mod Speaking
mod Meeting
mod Deciding
pub mod Placing
mod Plain
pub mod Conflicting
pub mod Owning
pub mod Searching
