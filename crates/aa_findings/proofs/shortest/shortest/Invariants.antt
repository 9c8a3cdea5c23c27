use Rattle.std.proofs.Common.{◌≡◌, option_map}
use Rattle.aa_findings.specs.Shortest.{nearest}
use Rattle.aa_findings.proofs.shortest.shortest.Given as goal

abbrev pub invariant-loop-number : goal.invariant-loop-number
invariant-loop-number l = option_map (λ b. b.now) l.best ≡ nearest l.texts l.number
