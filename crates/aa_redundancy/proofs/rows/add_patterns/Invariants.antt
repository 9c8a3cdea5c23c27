use Rattle.std.proofs.Common.{◌≡◌, ◌++◌, take}
use Rattle.aa_auto.specs.Nodes.{pointed}
use Rattle.aa_redundancy.proofs.rows.add_patterns.Given as goal

abbrev pub invariant-loop-pattern : goal.invariant-loop-pattern
invariant-loop-pattern l = pointed l.pointers.items ≡ pointed l.fn.pointers.items ++ take l.pattern-index l.patterns
