pub mod Placing
pub mod Streams
pub mod Units
pub mod Lending
pub mod Outputs
pub mod Deciding
pub mod Lying
