pub mod Meeting
pub mod Stepping
pub mod Reaching
pub mod Collecting
pub mod Paths
