pub use Rattle.aa_policies.specs.Policies
pub mod Answers
pub mod Output
pub mod Replay
pub mod Texts
pub mod Engines
pub mod Faults
pub mod LineEnds
