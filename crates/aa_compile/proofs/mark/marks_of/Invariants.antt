use Rattle.std.proofs.Common.{◌≡◌, ◌++◌, drop}
use Rattle.aa_compile.specs.Marks.{marks_by}
use Rattle.aa_compile.proofs.mark.marks_of.Given as goal

abbrev pub invariant-loop-number : goal.invariant-loop-number
invariant-loop-number l = l.marks.items ++ marks_by (drop l.number l.rules) (drop l.number l.ways) ≡ marks_by l.rules l.ways
