use Rattle.std.proofs.Common.{◌≡◌, drop}
use Rattle.aa_compile.specs.Said.{both}
use Rattle.aa_mediate.specs.Held.{cap_verdict}
use Rattle.aa_mediate.proofs.held.verdict_of_cap.Given as goal

abbrev pub invariant-loop-rule : goal.invariant-loop-rule
invariant-loop-rule l = both l.sets (cap_verdict (drop l.rule-index l.rules) l.cap) ≡ cap_verdict l.rules l.cap
