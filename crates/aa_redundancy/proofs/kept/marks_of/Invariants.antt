use Rattle.std.proofs.Common.{◌≡◌, ℕ, ◌<◌, Some, false, length}
use Rattle.std.specs.List.{slice_get}
use Rattle.aa_redundancy.specs.Marks.{plain_mark}
use Rattle.aa_redundancy.proofs.kept.marks_of.Given as goal

abbrev pub invariant-loop-number : goal.invariant-loop-number
invariant-loop-number l = record {
  many : length l.marks.items ≡ l.number;
  marks : (n : ℕ) → n < l.number → slice_get l.marks.items n ≡ Some (plain_mark n false false);
}
