use Rattle.std.proofs.Common.{◌≡◌, length}
use Rattle.aa_base.specs.Hex.{is_even}
use Rattle.aa_base.proofs.hex.is_even.Given as goal

abbrev pub invariant-loop-rest : goal.invariant-loop-rest
invariant-loop-rest l = is_even l.text ≡ is_even l.rest

abbrev pub decreases-loop-rest : goal.decreases-loop-rest
decreases-loop-rest l = length l.rest
