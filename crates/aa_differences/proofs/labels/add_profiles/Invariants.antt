use Rattle.std.proofs.Common.{ℕ, ◌<◌}
use Rattle.aa_differences.specs.Pairs.{AddsPairs, HasPairsOf}
use Rattle.aa_differences.proofs.labels.add_profiles.Given as goal

abbrev pub invariant-loop-number : goal.invariant-loop-number
invariant-loop-number l = record {
  adds : AddsPairs l.old l.new l.fn.labels.items l.labels.items;
  has : (n : ℕ) → n < l.number → HasPairsOf l.old l.new l.policy n l.labels.items;
}
