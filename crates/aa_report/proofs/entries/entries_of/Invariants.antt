use Rattle.std.proofs.Common.{◌≡◌, ◌++◌, [], length}
use Rattle.aa_files.specs.Texts.{texts, slices}
use Rattle.aa_report.specs.Entries.{entries_from}
use Rattle.aa_report.proofs.entries.entries_of.Given as goal

abbrev pub invariant-loop-rest : goal.invariant-loop-rest
invariant-loop-rest l = texts l.entries.items ++ entries_from l.heading (slices l.rest) ≡ entries_from [] (slices l.lines)

abbrev pub decreases-loop-rest : goal.decreases-loop-rest
decreases-loop-rest l = length l.rest
