use Rattle.std.proofs.Common.{◌≡◌, length}
use Rattle.aa_report.specs.Lines.{after_digits}
use Rattle.aa_report.proofs.lines.after_digits.Given as goal

abbrev pub invariant-loop-rest : goal.invariant-loop-rest
invariant-loop-rest l = after_digits l.rest ≡ after_digits l.line

abbrev pub decreases-loop-rest : goal.decreases-loop-rest
decreases-loop-rest l = length l.rest
