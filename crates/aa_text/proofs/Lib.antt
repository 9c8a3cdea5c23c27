pub mod Counting
pub mod Cuts
pub mod Lines
pub mod Rising
pub mod Utf8
pub mod Behind
pub mod Below
pub mod Plain
pub mod Written
pub mod Commas
mod Nearing
