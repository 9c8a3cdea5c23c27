mod Keeping
mod Stepping
mod Reaching
mod Searching
mod Besides
pub mod Backing
pub mod Cleaning
mod Counting
mod Elements
mod Ordering
mod Firsts
mod Single
mod Anything
mod Executing
mod Changing
mod Enforcing
mod Granting
