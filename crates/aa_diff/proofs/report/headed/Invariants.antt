use Rattle.std.proofs.Common.{◌≡◌, None, length, map}
use Rattle.aa_diff.specs.Lines.{told}
use Rattle.aa_diff.specs.Report.{headed}
use Rattle.aa_diff.proofs.report.headed.Given as goal

abbrev pub invariant-loop-rest : goal.invariant-loop-rest
invariant-loop-rest l = headed l.count l.before (map told l.rest) ≡ headed 0 None (map told l.lines)

abbrev pub decreases-loop-rest : goal.decreases-loop-rest
decreases-loop-rest l = length l.rest
