pub mod Memory
pub mod Values
pub mod Questions
pub mod Answers
