use Rattle.std.proofs.Common.{◌≡◌, ◌++◌, map, take, flat_map}
use Rattle.aa_assert.specs.Findings.{found}
use Rattle.aa_assert.specs.Shown.{apart_text}
use Rattle.aa_assert.proofs.unclean.push_apart.Given as goal

abbrev pub invariant-loop-finding : goal.invariant-loop-finding
invariant-loop-finding l = l.out.items ≡ l.initial.out.items ++ flat_map (apart_text l.path l.number) (map found (take l.finding-index l.findings))
