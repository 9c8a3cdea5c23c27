use Rattle.std.proofs.Common.{◌≡◌, ◌++◌, map, take, flat_map}
use Rattle.aa_assert.specs.Outcomes.{outcome}
use Rattle.aa_assert.specs.Gcc.{gcc_outcome}
use Rattle.aa_assert.proofs.gcc.push_outcomes.Given as goal

abbrev pub invariant-loop-one : goal.invariant-loop-one
invariant-loop-one l = l.out.items ≡ l.initial.out.items ++ flat_map (gcc_outcome l.path) (map outcome (take l.one-index l.outcomes))
