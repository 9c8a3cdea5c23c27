pub mod Keywords
pub mod Tally
pub mod Firsts
pub mod Counted
pub mod Found
mod Pieces
