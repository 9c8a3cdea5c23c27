use Rattle.std.proofs.Common.{◌≡◌, length}
use Rattle.aa_words.specs.Splits.{words_data}
use Rattle.aa_faults.specs.Statements.{statement_at}
use Rattle.aa_faults.proofs.statements.statement_at.Given as goal

abbrev pub invariant-loop-rest : goal.invariant-loop-rest
invariant-loop-rest l = statement_at l.at (words_data l.rest) ≡ statement_at l.at (words_data l.words)

abbrev pub decreases-loop-rest : goal.decreases-loop-rest
decreases-loop-rest l = length l.rest
