use Rattle.std.proofs.Common.{◌≡◌, ◌<◌, ℕ, length, take}
use Rattle.std.specs.Prelude.{◌||◌}
use Rattle.aa_redundancy.specs.Without.{marked}
use Rattle.aa_redundancy.specs.Reasons.{is_one_of}
use Rattle.aa_redundancy.proofs.reasons.mark_all.Given as goal

abbrev pub invariant-loop-place : goal.invariant-loop-place
invariant-loop-place l = record {
  many : length l.flags.items ≡ length l.fn.flags.items;
  marks : (n : ℕ) → n < length l.fn.flags.items → marked l.flags.items n ≡ (marked l.fn.flags.items n || is_one_of (take l.place-index l.places) n);
}
