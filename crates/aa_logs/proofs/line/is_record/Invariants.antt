use Rattle.std.proofs.Common.{◌-◌, length}
use Rattle.aa_logs.proofs.Marks.{NoMark}
use Rattle.aa_logs.proofs.line.is_record.Given as goal

abbrev pub invariant-signs : goal.invariant-signs
invariant-signs l = NoMark l.line l.from

abbrev pub decreases-signs : goal.decreases-signs
decreases-signs l = length l.line - l.from
