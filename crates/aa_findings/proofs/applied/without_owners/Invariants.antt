use Rattle.std.proofs.Common.{◌≡◌, take}
use Rattle.std.specs.Prelude.{filter, not}
use Rattle.aa_findings.specs.Applied.{is_owners}
use Rattle.aa_findings.proofs.applied.without_owners.Given as goal

abbrev pub invariant-loop-number : goal.invariant-loop-number
invariant-loop-number l = l.kept.items ≡ filter (λ n. not (is_owners l.rules n)) (take l.number-index l.numbers)
