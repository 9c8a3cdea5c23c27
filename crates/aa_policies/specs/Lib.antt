pub use Rattle.aa_base.specs.Kinds
pub use Rattle.aa_compile.specs.Checks
pub mod Policies
