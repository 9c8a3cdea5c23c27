pub use Rattle.aa_log.specs.Against
pub mod Parted
pub mod Holding
pub mod Texts
pub mod Command
