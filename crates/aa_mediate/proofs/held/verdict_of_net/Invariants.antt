use Rattle.std.proofs.Common.{◌≡◌, drop}
use Rattle.aa_compile.specs.Said.{both}
use Rattle.aa_mediate.specs.Held.{net_verdict}
use Rattle.aa_mediate.proofs.held.verdict_of_net.Given as goal

abbrev pub invariant-loop-rule : goal.invariant-loop-rule
invariant-loop-rule l = both l.sets (net_verdict (drop l.rule-index l.rules) l.family l.kind) ≡ net_verdict l.rules l.family l.kind
