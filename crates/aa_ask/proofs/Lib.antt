mod Bits
mod Named
mod Telling
pub mod Views
pub mod Turns
mod Denials
pub mod ReadWords
