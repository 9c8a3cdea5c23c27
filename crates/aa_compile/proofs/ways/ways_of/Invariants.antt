use Rattle.std.proofs.Common.{◌≡◌, take}
use Rattle.aa_compile.specs.Ways.{numbered, way_by}
use Rattle.aa_compile.proofs.ways.ways_of.Given as goal

abbrev pub invariant-loop-rule : goal.invariant-loop-rule
invariant-loop-rule l = l.ways.items ≡ numbered (way_by l.rules) (take l.rule-index l.rules)
