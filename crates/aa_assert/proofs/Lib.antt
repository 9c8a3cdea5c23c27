pub mod Judged
pub mod Counting
pub mod Saying
pub mod Unanswered
pub mod Turns
pub mod Turning
pub mod Looking
pub mod Passing
mod Apart
mod Enforcing
mod Clearing
mod There
mod Naming
mod Beginning
mod Counted
mod Clear
mod Telling
mod Quiet
mod Sound
mod Unbreaking
