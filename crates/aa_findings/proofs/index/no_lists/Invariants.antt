use Rattle.std.proofs.Common.{◌≡◌, ℕ, ◌<◌, length, []}
use Rattle.aa_findings.specs.Places.{lists, list_at}
use Rattle.aa_findings.proofs.index.no_lists.Given as goal

abbrev pub invariant-loop-number : goal.invariant-loop-number
invariant-loop-number l = record {
  many : length l.index.items ≡ l._number;
  empty : (n : ℕ) → n < l._number → list_at (lists l.index.items) n ≡ [];
}
