pub mod Statements
pub mod Extents
pub mod Blanks
pub mod Further
