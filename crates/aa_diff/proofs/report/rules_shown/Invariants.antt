use Rattle.std.proofs.Common.{◌≡◌, take, map}
use Rattle.aa_passed_over.specs.Apart.{apart}
use Rattle.aa_diff.specs.Report.{rules_shown}
use Rattle.aa_diff.proofs.report.rules_shown.Given as goal

abbrev pub invariant-loop-rule : goal.invariant-loop-rule
invariant-loop-rule l = map apart l.shown.items ≡ rules_shown l.policies l.wanted (map apart (take l.rule-index l.rules))
