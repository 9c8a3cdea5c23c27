pub mod Planted
pub mod Failing
