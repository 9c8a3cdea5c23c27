pub use Rattle.aa_pattern.specs.Limits
pub mod Requests
pub mod Copies
pub mod Lawful
