use Rattle.std.proofs.Common.{◌≡◌, map, take}
use Rattle.aa_check.specs.Counts.{counted_keyword, distinct, keywords_of, passed_data}
use Rattle.aa_check.proofs.counting.keywords_of.Given as goal

abbrev pub invariant-loop-rule : goal.invariant-loop-rule
invariant-loop-rule l = map passed_data l.passed.items ≡ map (counted_keyword l.rules) (distinct (keywords_of (take l.rule-index l.rules)))
