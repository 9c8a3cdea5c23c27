pub mod Lines
pub mod Known
mod Walking
mod Lists
mod Taken
mod Walked
mod Wanting
mod Faulted
mod Rooted
pub mod Readings
pub mod Steps
pub mod Ways
