use Rattle.std.proofs.Common.{◌≡◌, map, take}
use Rattle.aa_lint.specs.Telling.{telling}
use Rattle.aa_lint.specs.Sarif.{result_text}
use Rattle.aa_lint.specs.Listed.{found}
use Rattle.aa_lint.proofs.sarif.results_of.Given as goal

abbrev pub invariant-loop-told : goal.invariant-loop-told
invariant-loop-told l = found l.list.items ≡ map result_text (map telling (take l.told-index l.all))
