pub mod Parts
pub mod Journal
pub mod Repeated
pub mod Said
pub mod Unclear
