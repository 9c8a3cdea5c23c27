use Rattle.std.proofs.Common.{◌≡◌, ◌++◌, drop}
use Rattle.aa_redundancy.specs.Plain.{cap_marks}
use Rattle.aa_redundancy.proofs.entries.marks_of_caps.Given as goal

abbrev pub invariant-loop-number : goal.invariant-loop-number
invariant-loop-number l = l.marks.items ++ cap_marks l.number (drop l.number l.rules) ≡ cap_marks 0 l.rules
