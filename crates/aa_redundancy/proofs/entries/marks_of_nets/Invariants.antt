use Rattle.std.proofs.Common.{◌≡◌, ◌++◌, drop}
use Rattle.aa_redundancy.specs.Plain.{net_marks}
use Rattle.aa_redundancy.proofs.entries.marks_of_nets.Given as goal

abbrev pub invariant-loop-number : goal.invariant-loop-number
invariant-loop-number l = l.marks.items ++ net_marks l.number (drop l.number l.rules) ≡ net_marks 0 l.rules
