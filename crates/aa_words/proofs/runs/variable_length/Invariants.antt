use Rattle.std.proofs.Common.{◌≡◌, ◌+◌, drop}
use Rattle.aa_words.specs.Runs.{variable_len}
use Rattle.aa_words.proofs.runs.variable_length.Given as goal

abbrev pub invariant-loop-i : goal.invariant-loop-i
invariant-loop-i l = variable_len l.text ≡ l.i + variable_len (drop l.i l.text)
