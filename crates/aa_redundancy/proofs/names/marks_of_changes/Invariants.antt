use Rattle.std.proofs.Common.{◌≡◌, ◌++◌, drop}
use Rattle.aa_redundancy.specs.Plain.{change_marks}
use Rattle.aa_redundancy.proofs.names.marks_of_changes.Given as goal

abbrev pub invariant-loop-number : goal.invariant-loop-number
invariant-loop-number l = l.marks.items ++ change_marks l.number (drop l.number l.rules) ≡ change_marks 0 l.rules
