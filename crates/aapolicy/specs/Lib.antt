pub mod Handed
pub mod Opened
