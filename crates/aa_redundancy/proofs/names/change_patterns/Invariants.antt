use Rattle.std.proofs.Common.{◌≡◌, take}
use Rattle.aa_auto.specs.Nodes.{pointed}
use Rattle.aa_representatives.specs.Alike.{change_patterns}
use Rattle.aa_redundancy.proofs.names.change_patterns.Given as goal

abbrev pub invariant-loop-rule : goal.invariant-loop-rule
invariant-loop-rule l = pointed l.pointers.items ≡ change_patterns (take l.rule-index l.rules)
