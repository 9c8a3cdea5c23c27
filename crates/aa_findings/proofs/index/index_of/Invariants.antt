use Rattle.std.proofs.Common.{◌≡◌, ℕ, ◌<◌, length, take}
use Rattle.aa_findings.specs.Places.{places, has, lists, list_at}
use Rattle.aa_findings.proofs.index.index_of.Given as goal

abbrev pub invariant-loop-place : goal.invariant-loop-place
invariant-loop-place l = record {
  many : length l.index.items ≡ l.many;
  each : (n : ℕ) → n < l.many → list_at (lists l.index.items) n ≡ places (has n) (lists (take l.place l.rows));
}
