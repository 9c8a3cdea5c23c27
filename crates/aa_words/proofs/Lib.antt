pub mod Extents
pub mod Forms
pub mod Pieces
pub mod Named
pub mod Order
pub mod Cuts
pub mod Once
pub mod Finds
