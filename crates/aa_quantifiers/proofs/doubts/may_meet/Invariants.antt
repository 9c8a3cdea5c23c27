use Rattle.std.proofs.Common.{◌≡◌, length}
use Rattle.aa_quantifiers.specs.Doubts.{may_meet}
use Rattle.aa_quantifiers.proofs.doubts.may_meet.Given as goal

abbrev pub invariant-loop-rest : goal.invariant-loop-rest
invariant-loop-rest l = may_meet l.rest l.items ≡ may_meet l.one l.other

abbrev pub decreases-loop-rest : goal.decreases-loop-rest
decreases-loop-rest l = length l.rest
