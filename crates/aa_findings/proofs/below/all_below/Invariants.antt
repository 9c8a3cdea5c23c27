use Rattle.aa_findings.specs.Below.{AreBelow}
use Rattle.aa_findings.proofs.below.all_below.Given as goal

abbrev pub invariant-loop-place : goal.invariant-loop-place
invariant-loop-place l = AreBelow l.profiles l.limit l.place l.all.items
