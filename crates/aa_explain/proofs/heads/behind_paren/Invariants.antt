use Rattle.std.proofs.Common.{◌≡◌, length}
use Rattle.aa_words.specs.Splits.{words_data}
use Rattle.aa_explain.specs.Heads.{behind_paren}
use Rattle.aa_explain.proofs.heads.behind_paren.Given as goal

abbrev pub invariant-loop-rest : goal.invariant-loop-rest
invariant-loop-rest l = behind_paren (words_data l.rest) ≡ behind_paren (words_data l.words)

abbrev pub decreases-loop-rest : goal.decreases-loop-rest
decreases-loop-rest l = length l.rest
