pub mod Escaped
pub mod Reading
pub mod Marks
pub mod Style
pub mod Pages
pub mod Lines
pub mod Drawing
