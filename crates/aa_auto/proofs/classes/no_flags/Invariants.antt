use Rattle.std.proofs.Common.{◌≡◌, All, length, false}
use Rattle.aa_auto.proofs.classes.no_flags.Given as goal

abbrev pub invariant-loop-byte : goal.invariant-loop-byte
invariant-loop-byte l = record {
  many : length l.flags.items ≡ l._byte;
  none : All (λ f. f ≡ false) l.flags.items;
}
