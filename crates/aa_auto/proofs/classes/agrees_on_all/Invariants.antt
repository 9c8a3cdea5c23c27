use Rattle.std.proofs.Common.{ℕ, ◌<◌, get_or}
use Rattle.aa_auto.specs.Division.{IsSameItem}
use Rattle.aa_auto.proofs.classes.agrees_on_all.Given as goal

abbrev pub invariant-loop-byte : goal.invariant-loop-byte
invariant-loop-byte l = (b : ℕ) → b < l.byte → IsSameItem l.item b (get_or l.bytes (get_or l.of b 0) 0)
