use Rattle.std.proofs.Common.{◌≡◌, ◌≤◌, [], length, take, drop}
use Rattle.aa_words.specs.Splits.{words_data}
use Rattle.aa_diagnostics.specs.Earlier.{set_again}
use Rattle.aa_diagnostics.proofs.variables.set_again.Given as goal

abbrev pub invariant-loop-rest : goal.invariant-loop-rest
invariant-loop-rest l = record {
  within : l.number ≤ length l.words;
  rest : l.rest ≡ drop l.number l.words;
  none : set_again l.at (words_data (take l.number l.words)) (words_data l.rest) ≡ set_again l.at [] (words_data l.words);
}

abbrev pub decreases-loop-rest : goal.decreases-loop-rest
decreases-loop-rest l = length l.rest
