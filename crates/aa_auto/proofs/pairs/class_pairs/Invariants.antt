use Rattle.std.proofs.Common.{◌≡◌, ◌<◌, ℕ, length, get_or}
use Rattle.aa_auto.specs.Pairs.{class_pair}
use Rattle.aa_auto.proofs.pairs.class_pairs.Given as goal

abbrev pub invariant-loop-byte : goal.invariant-loop-byte
invariant-loop-byte l = record {
  many : length l.keys.items ≡ l.byte;
  each : (b : ℕ) → b < l.byte → get_or l.keys.items b 0 ≡ class_pair l.one l.other b;
}
