pub mod Colons
pub mod Objects
pub mod Turns
pub mod Printing
pub mod Enforcing
mod Clearing
