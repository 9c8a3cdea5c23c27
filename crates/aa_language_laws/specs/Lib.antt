pub mod Places
pub mod Paths
pub mod Quotes
pub mod RunEnds
pub mod ModeParts
pub mod Assigned
pub mod PassedOver
pub mod Names
