pub mod Between
pub mod Claims
