pub use Rattle.aa_compile.specs.FileRules
