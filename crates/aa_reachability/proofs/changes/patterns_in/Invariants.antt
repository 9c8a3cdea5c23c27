use Rattle.std.proofs.Common.{◌≡◌, length, take, min}
use Rattle.aa_representatives.specs.Alike.{change_patterns}
use Rattle.aa_reachability.proofs.changes.patterns_in.Given as goal

abbrev pub invariant-loop-rule : goal.invariant-loop-rule
invariant-loop-rule l = l.count ≡ min (length (change_patterns (take l.rule-index l.rules))) 65536
