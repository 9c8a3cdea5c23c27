use Rattle.std.proofs.Common.{◌≡◌, map, length}
use Rattle.aa_findings.specs.Attached.{sharing, other_at}
use Rattle.aa_findings.proofs.ties.other_at.Given as goal

abbrev pub invariant-loop-rest : goal.invariant-loop-rest
invariant-loop-rest l = other_at l.number (map sharing l.rest) l.path ≡ other_at l.number (map sharing l.all) l.path

abbrev pub decreases-loop-rest : goal.decreases-loop-rest
decreases-loop-rest l = length l.rest
