pub mod Answering
mod Checking
mod Replaying
mod Writing
pub mod Crossing
mod Rows
mod Patterns
mod Rules
mod Profiles
mod Replies
pub mod SameTexts
pub mod Replays
mod Words
mod Inputs
mod Streams
mod Decided
mod InTurn
