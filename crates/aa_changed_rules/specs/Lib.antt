pub mod Codes
pub mod Forms
pub mod Sameness
pub mod Changed
pub mod Matching
pub mod Attachments
pub mod Leading
