use Rattle.std.proofs.Common.{◌≡◌, ◌+◌, drop}
use Rattle.aa_words.specs.Runs.{value_len}
use Rattle.aa_words.proofs.runs.value_length.Given as goal

abbrev pub invariant-loop-i : goal.invariant-loop-i
invariant-loop-i l = value_len l.text ≡ l.i + value_len (drop l.i l.text)
