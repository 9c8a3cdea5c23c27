use Rattle.std.proofs.Common.{◌≡◌, take}
use Rattle.aa_auto.specs.Nodes.{pointed}
use Rattle.aa_compile.specs.Rows.{patterns_of}
use Rattle.aa_redundancy.proofs.files.patterns_of.Given as goal

abbrev pub invariant-loop-rule : goal.invariant-loop-rule
invariant-loop-rule l = pointed l.pointers.items ≡ patterns_of (take l.rule-index l.rules)
