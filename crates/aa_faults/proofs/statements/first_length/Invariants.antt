use Rattle.std.proofs.Common.{◌≡◌, ◌+◌, length}
use Rattle.aa_words.specs.Splits.{words_data}
use Rattle.aa_faults.specs.Statements.{first_length}
use Rattle.aa_faults.proofs.statements.first_length.Given as goal

abbrev pub invariant-loop-rest : goal.invariant-loop-rest
invariant-loop-rest l = record {
  so_far : l.count + first_length (words_data l.rest) ≡ first_length (words_data l.words);
  many : l.count + length l.rest ≡ length l.words;
}

abbrev pub decreases-loop-rest : goal.decreases-loop-rest
decreases-loop-rest l = length l.rest
