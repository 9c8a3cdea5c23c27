use Rattle.std.proofs.Common.{◌≡◌, drop}
use Rattle.aa_compile.specs.Said.{both}
use Rattle.aa_mediate.specs.Held.{change_verdict}
use Rattle.aa_mediate.proofs.held.verdict_of_change.Given as goal

abbrev pub invariant-loop-rule : goal.invariant-loop-rule
invariant-loop-rule l = both l.sets (change_verdict (drop l.rule-index l.rules) l.name) ≡ change_verdict l.rules l.name
