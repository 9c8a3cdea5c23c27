use Rattle.std.proofs.Common.{◌≡◌, All, length}
use Rattle.aa_auto.proofs.classes.equal_keys.Given as goal

abbrev pub invariant-loop-byte : goal.invariant-loop-byte
invariant-loop-byte l = record {
  many : length l.keys.items ≡ l._byte;
  equal : All (λ k. k ≡ 0) l.keys.items;
}
