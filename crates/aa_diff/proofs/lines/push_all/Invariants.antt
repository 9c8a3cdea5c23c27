use Rattle.std.proofs.Common.{◌≡◌, ◌++◌, take, map}
use Rattle.aa_passed_over.specs.Apart.{apart}
use Rattle.aa_diff.specs.Lines.{PassedOver, told}
use Rattle.aa_diff.proofs.lines.push_all.Given as goal

abbrev pub invariant-loop-rule : goal.invariant-loop-rule
invariant-loop-rule l = map told l.lines.items ≡ map told l.initial.lines.items ++ map PassedOver (map apart (take l.rule-index l.rules))
