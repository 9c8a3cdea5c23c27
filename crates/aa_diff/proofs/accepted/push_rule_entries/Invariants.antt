use Rattle.std.proofs.Common.{◌≡◌, ◌++◌, map, take}
use Rattle.aa_files.specs.Texts.{texts}
use Rattle.aa_passed_over.specs.Apart.{apart}
use Rattle.aa_diff.specs.Accepted.{rule_entry}
use Rattle.aa_diff.proofs.accepted.push_rule_entries.Given as goal

abbrev pub invariant-loop-rule : goal.invariant-loop-rule
invariant-loop-rule l = texts l.entries.items ≡ texts l.initial.entries.items ++ map (rule_entry l.policies) (map apart (take l.rule-index l.rules))
