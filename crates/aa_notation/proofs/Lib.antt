pub mod Loops
pub mod Paths
pub mod Reading
pub mod Splits
