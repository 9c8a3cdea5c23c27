use Rattle.std.proofs.Common.{◌≡◌, length}
use Rattle.aa_words.specs.Splits.{words_data}
use Rattle.aa_diagnostics.specs.Earlier.{set_first}
use Rattle.aa_diagnostics.proofs.variables.set_first.Given as goal

abbrev pub invariant-loop-rest : goal.invariant-loop-rest
invariant-loop-rest l = set_first l.name (words_data l.rest) ≡ set_first l.name (words_data l.words)

abbrev pub decreases-loop-rest : goal.decreases-loop-rest
decreases-loop-rest l = length l.rest
