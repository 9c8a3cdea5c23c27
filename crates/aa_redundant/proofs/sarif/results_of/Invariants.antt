use Rattle.std.proofs.Common.{◌≡◌, map, take}
use Rattle.aa_redundant.specs.Told.{explaining}
use Rattle.aa_redundant.specs.Sarif.{result_text}
use Rattle.aa_redundant.specs.Listed.{found}
use Rattle.aa_redundant.proofs.sarif.results_of.Given as goal

abbrev pub invariant-loop-rule : goal.invariant-loop-rule
invariant-loop-rule l = found l.list.items ≡ map result_text (map explaining (take l.rule-index l.rules))
