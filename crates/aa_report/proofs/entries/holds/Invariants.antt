use Rattle.std.proofs.Common.{◌≡◌, length}
use Rattle.aa_report.specs.Entries.{holds}
use Rattle.aa_report.proofs.entries.holds.Given as goal

abbrev pub invariant-loop-rest : goal.invariant-loop-rest
invariant-loop-rest l = holds l.word l.rest ≡ holds l.word l.line

abbrev pub decreases-loop-rest : goal.decreases-loop-rest
decreases-loop-rest l = length l.rest
