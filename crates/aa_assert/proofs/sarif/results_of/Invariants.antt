use Rattle.std.proofs.Common.{◌≡◌, map, take}
use Rattle.aa_assert.specs.Outcomes.{outcome}
use Rattle.aa_assert.specs.Sarif.{result_text}
use Rattle.aa_assert.specs.Listed.{results_in}
use Rattle.aa_assert.proofs.sarif.results_of.Given as goal

abbrev pub invariant-loop-one : goal.invariant-loop-one
invariant-loop-one l = results_in l.list.items ≡ map (result_text l.path) (map outcome (take l.one-index l.outcomes))
