use Rattle.std.proofs.Common.{◌≡◌, ◌++◌, drop}
use Rattle.aa_compile.specs.Ways.{way_by}
use Rattle.aa_redundancy.specs.Marks.{marks_from}
use Rattle.aa_redundancy.proofs.marks.marks_of_files.Given as goal

abbrev pub invariant-loop-number : goal.invariant-loop-number
invariant-loop-number l = l.marks.items ++ marks_from (way_by l.rules) l.number (drop l.number l.rules) ≡ marks_from (way_by l.rules) 0 l.rules
