pub mod FirstNumbers
pub mod Kinds
pub mod Tables
pub mod Permissions
pub mod Hex
pub mod Values
