-- Sets of permissions less others.
use Rattle.std.proofs.Common.{◌≡◌, ℕ, ◌-◌, ◌%◌, ◌<◌, ◌≤◌, arith}
use Rattle.std.specs.Prelude.{bit_and}
use Rattle.std.proofs.lemmas.Nat.{and_le_l, and_mask}
use Rattle.aa_compile.specs.Said.{minus}

pub minus_le : (a b : ℕ) → minus a b ≤ a
minus_le a b = and_le_l a (255 - b)

pub minus_nothing : (a : ℕ) → a < 256 → minus a 0 ≡ a
minus_nothing a small = let e : bit_and a 255 ≡ a % 256 = and_mask a 8 in omega (arith, e)
