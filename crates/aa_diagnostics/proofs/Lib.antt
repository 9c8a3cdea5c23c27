mod Naming
mod Fronts
pub mod SetTwice
mod NamedTwice
mod Shown
mod OfUnit
mod Few
mod Alike
mod Conflicting
mod Kept
