mod Entries
pub mod Digits
pub mod FirstNumbers
pub mod Shown
