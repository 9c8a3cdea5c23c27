use Rattle.std.proofs.Common.{◌≡◌, ◌+◌, drop}
use Rattle.aa_words.specs.Runs.{name_len}
use Rattle.aa_words.proofs.runs.name_length.Given as goal

abbrev pub invariant-loop-i : goal.invariant-loop-i
invariant-loop-i l = name_len l.text ≡ l.i + name_len (drop l.i l.text)
