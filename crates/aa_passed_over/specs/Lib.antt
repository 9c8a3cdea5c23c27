pub mod Apart
pub mod Listed
