use Rattle.std.proofs.Common.{◌≡◌, ◌++◌, map, length}
use Rattle.aa_ask.specs.Told.{told}
use Rattle.aa_ask.specs.Asked.{in_sequence}
use Rattle.aa_ask.proofs.asking.decide_in_sequence.Given as goal

abbrev pub invariant-loop-rest : goal.invariant-loop-rest
invariant-loop-rest l = map told l.verdicts.items ++ in_sequence l.decided l.label l.rest ≡ in_sequence l.decided l.fn.opening l.requests

abbrev pub decreases-loop-rest : goal.decreases-loop-rest
decreases-loop-rest l = length l.rest
