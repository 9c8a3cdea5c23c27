pub use Rattle.aa_skipping.specs.Laws
pub mod Answers
pub mod Named
pub mod Holding
pub mod Shown
pub mod Jsons
pub mod Command
