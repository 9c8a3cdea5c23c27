pub mod Names
pub mod Zipped
pub mod Telling
pub mod Apart
pub mod Leading
pub mod Asking
pub mod Drawing
mod Turning
mod Shutting
mod Sounds
mod Enforcing
