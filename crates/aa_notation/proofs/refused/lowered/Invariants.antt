use Rattle.std.proofs.Common.{◌≡◌, take, map}
use Rattle.aa_notation.specs.Refused.{small}
use Rattle.aa_notation.proofs.refused.lowered.Given as goal

abbrev pub invariant-loop-b : goal.invariant-loop-b
invariant-loop-b l = l.letters.items ≡ map small (take l.b-index l.text)
