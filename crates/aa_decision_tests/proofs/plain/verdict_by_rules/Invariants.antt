use Rattle.std.proofs.Common.{◌≡◌, drop}
use Rattle.aa_compile.specs.Said.{both}
use Rattle.aa_compile.specs.FileRules.{file_verdict}
use Rattle.aa_decision_tests.proofs.plain.verdict_by_rules.Given as goal

abbrev pub invariant-loop-rule : goal.invariant-loop-rule
invariant-loop-rule l = both l.sets (file_verdict (drop l.rule-index l.rules) l.path l.owned) ≡ file_verdict l.rules l.path l.owned
