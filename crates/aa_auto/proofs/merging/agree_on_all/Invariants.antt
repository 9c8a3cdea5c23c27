use Rattle.std.proofs.Common.{ℕ, ◌<◌}
use Rattle.aa_auto.specs.Merged.{AgreeOn}
use Rattle.aa_auto.proofs.merging.agree_on_all.Given as goal

abbrev pub invariant-loop-byte : goal.invariant-loop-byte
invariant-loop-byte l = (c : ℕ) → c < l.byte → AgreeOn l.a l.b c
