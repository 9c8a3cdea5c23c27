use Rattle.std.proofs.Common.{◌≡◌, ℕ, ◌<◌, length, get_or, []}
use Rattle.aa_compile.specs.Groups.{lists}
use Rattle.aa_compile.proofs.groups.no_groups.Given as goal

abbrev pub invariant-loop-number : goal.invariant-loop-number
invariant-loop-number l = record {
  many : length l.groups.items ≡ l._number;
  empty : (n : ℕ) → n < l._number → get_or (lists l.groups.items) n [] ≡ [];
}
