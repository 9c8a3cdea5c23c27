use Rattle.aa_pattern.proofs.GapSteps.{IsOnto}
use Rattle.aa_pattern.proofs.gaps.follow_byte.Given as goal

abbrev pub invariant-loop-i : goal.invariant-loop-i
invariant-loop-i l = IsOnto l.items l.byte l.fn.gaps l.gaps l.before l.i
