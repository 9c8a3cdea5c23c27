pub mod Names
pub mod Places
pub mod Noting
pub mod Moves
pub mod Counts
pub mod Joins
mod Gathering
pub mod Cuts
pub mod Adding
pub mod Single
