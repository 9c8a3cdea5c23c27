use Rattle.std.proofs.Common.{◌≡◌, ℕ, ◌<◌, Some, slice_get}
use Rattle.aa_regions.specs.declared.regions.Region.{Region}
use Rattle.aa_explain.specs.Clashes.{SomeConflict}
use Rattle.aa_explain.proofs.search.clash_among.Given as goal

abbrev pub invariant-loop-region : goal.invariant-loop-region
invariant-loop-region l = (k : ℕ) → k < l.region-index → (r : Region) → slice_get l.regions k ≡ Some r → SomeConflict l.rules l.owners r.numbers r.witness → ⊥
