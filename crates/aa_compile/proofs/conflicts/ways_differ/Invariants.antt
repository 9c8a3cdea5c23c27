use Rattle.std.proofs.Common.{◌≡◌, ℕ, ◌<◌, Some, get_or}
use Rattle.aa_compile.specs.declared.mark.Way.{Way}
use Rattle.aa_compile.specs.Conflicts.{way_at}
use Rattle.aa_compile.proofs.conflicts.ways_differ.Given as goal

abbrev pub invariant-loop-number : goal.invariant-loop-number
invariant-loop-number l = record {
  from : (w : Way) → l.first ≡ Some w → (k : ℕ) × (k < l.number-index) × (way_at l.marks l.literal (get_or l.numbers k 0) ≡ Some w);
  each : (k : ℕ) (w : Way) → k < l.number-index → way_at l.marks l.literal (get_or l.numbers k 0) ≡ Some w → l.first ≡ Some w;
}
