use Rattle.std.proofs.Common.{◌≡◌, ◌++◌, take, flat_map}
use Rattle.aa_check.specs.Printed.{passed_text}
use Rattle.aa_check.proofs.checked.push_keywords.Given as goal

abbrev pub invariant-loop-passed : goal.invariant-loop-passed
invariant-loop-passed l = l.out.items ≡ l.initial.out.items ++ flat_map passed_text (take l.passed-index l.passed_over)
