pub mod Lines
pub mod Accepted
pub mod Sets
pub mod Entries
pub mod Spans
pub mod Reading
pub mod Markdown
