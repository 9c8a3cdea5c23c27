use Rattle.std.proofs.Common.{◌≡◌, length, map}
use Rattle.aa_pattern.specs.declared.item.Item.{Byte}
use Rattle.aa_quantifiers.specs.Doubts.{may_meet}
use Rattle.aa_differences.proofs.openings.may_begin.Given as goal

abbrev pub invariant-loop-rest : goal.invariant-loop-rest
invariant-loop-rest l = may_meet l.rest (map Byte l.bytes) ≡ may_meet l.items (map Byte l.front)

abbrev pub decreases-loop-rest : goal.decreases-loop-rest
decreases-loop-rest l = length l.rest
