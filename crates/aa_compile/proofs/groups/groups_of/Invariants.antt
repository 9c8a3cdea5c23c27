use Rattle.std.proofs.Common.{◌≡◌, ℕ, ◌<◌, length, take, get_or, [], Some}
use Rattle.aa_compile.specs.Attached.{numbers_below}
use Rattle.aa_compile.specs.Groups.{lists}
use Rattle.aa_compile.proofs.groups.groups_of.Given as goal

abbrev pub invariant-loop-number : goal.invariant-loop-number
invariant-loop-number l = record {
  many : length l.groups.items ≡ length l.profiles;
  exact : (n : ℕ) → n < length l.profiles → get_or (lists l.groups.items) n [] ≡ numbers_below (Some n) 0 (take l.number l.profiles);
}
