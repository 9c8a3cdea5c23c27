pub mod Listing
pub mod Sorting
pub mod Counting
pub mod Entries
pub mod Reasons
pub mod Results
pub mod Taking
pub mod Joining
mod Whole
pub mod Apart
pub mod Askable
pub mod Answered
pub mod Lines
pub mod Saying
pub mod Replays
