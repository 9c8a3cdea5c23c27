pub mod Rows
pub mod Orders
pub mod Elements
pub mod Decoding
pub mod Sets
pub mod Telling
pub mod News
pub mod Knowing
pub mod Ranging
mod Leading
