use Rattle.std.proofs.Common.{◌≡◌, ◌<◌, ℕ, get_or, false, length}
use Rattle.aa_glob.specs.Classes.{is_listed}
use Rattle.aa_glob.proofs.classes.flags_of.Given as goal

abbrev pub invariant-loop-byte : goal.invariant-loop-byte
invariant-loop-byte l = (length l.flags ≡ 256) × ((k : ℕ) → k < l.byte → get_or l.flags k false ≡ is_listed l.negated l.ranges k)
