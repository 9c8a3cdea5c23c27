pub mod Bodies
pub mod Flags
pub mod Heads
pub mod Sorting
pub mod Repeated
pub mod Telling
pub mod Policies
pub mod Together
