use Rattle.std.proofs.Common.{take}
use Rattle.aa_files.specs.Texts.{slices}
use Rattle.aa_report.specs.Sets.{AreIn}
use Rattle.aa_report.proofs.sets.lines_as_set.Given as goal

abbrev pub invariant-loop-line : goal.invariant-loop-line
invariant-loop-line l = AreIn l.set (slices (take l.line-index l.lines))
