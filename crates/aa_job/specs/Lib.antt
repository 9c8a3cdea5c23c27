pub mod Shared
pub mod Tasks
pub mod Jobs
pub mod Policies
pub mod Command
