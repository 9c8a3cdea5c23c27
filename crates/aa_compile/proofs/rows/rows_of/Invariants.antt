use Rattle.std.proofs.Common.{◌≡◌, take}
use Rattle.aa_compile.specs.Rows.{rows_by}
use Rattle.aa_compile.proofs.rows.rows_of.Given as goal

abbrev pub invariant-loop-number : goal.invariant-loop-number
invariant-loop-number l = l.rows.items ≡ rows_by l.marks (take l.number l.automaton.lists)
