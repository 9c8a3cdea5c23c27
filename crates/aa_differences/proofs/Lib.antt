mod Rows
mod SamePatterns
mod SameRules
mod SameProfiles
mod SameReplies
mod Zipped
mod Adding
mod Running
pub mod Pairing
mod Listing
mod Closed
