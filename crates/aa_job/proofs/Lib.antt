pub mod Placing
pub mod Sharing
pub mod Taking
pub mod Naming
pub mod Tasking
