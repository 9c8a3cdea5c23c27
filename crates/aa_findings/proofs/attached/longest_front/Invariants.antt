use Rattle.std.proofs.Common.{◌≡◌, length, max}
use Rattle.aa_compile.specs.Attached.{longest}
use Rattle.aa_findings.proofs.attached.longest_front.Given as goal

abbrev pub invariant-loop-rest : goal.invariant-loop-rest
invariant-loop-rest l = max l.front (longest l.rest) ≡ longest l.matches

abbrev pub decreases-loop-rest : goal.decreases-loop-rest
decreases-loop-rest l = length l.rest
