pub use Rattle.aa_regions.specs.Regions
pub use Rattle.aa_pattern.specs.Matching
pub mod Components
pub mod Told
pub mod Deciding
pub mod Requests
