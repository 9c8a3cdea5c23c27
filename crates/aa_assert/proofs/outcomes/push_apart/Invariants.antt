use Rattle.std.proofs.Common.{◌≡◌, ◌++◌, map, take}
use Rattle.aa_assert.specs.Findings.{found}
use Rattle.aa_assert.specs.Outcomes.{Apart, outcome}
use Rattle.aa_assert.proofs.outcomes.push_apart.Given as goal

abbrev pub invariant-loop-finding : goal.invariant-loop-finding
invariant-loop-finding l = map outcome l.out.items ≡ map outcome l.initial.out.items ++ map (Apart l.number l.kind) (map found (take l.finding-index l.findings))
