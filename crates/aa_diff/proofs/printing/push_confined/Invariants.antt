use Rattle.std.proofs.Common.{◌≡◌, ◌++◌, None, length, map}
use Rattle.aa_diff.specs.Lines.{told}
use Rattle.aa_diff.specs.Printed.{confined_text}
use Rattle.aa_diff.proofs.printing.push_confined.Given as goal

abbrev pub invariant-loop-rest : goal.invariant-loop-rest
invariant-loop-rest l = l.out.items ++ confined_text l.policies l.before (map told l.rest) ≡ l.initial.out.items ++ confined_text l.policies None (map told l.lines)

abbrev pub decreases-loop-rest : goal.decreases-loop-rest
decreases-loop-rest l = length l.rest
