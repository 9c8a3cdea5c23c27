use Rattle.std.proofs.Common.{◌≡◌, ◌+◌, drop, false}
use Rattle.aa_words.specs.Runs.{quote_len}
use Rattle.aa_words.proofs.runs.quote_length.Given as goal

abbrev pub invariant-loop-i : goal.invariant-loop-i
invariant-loop-i l = quote_len false l.text ≡ l.i + quote_len l.kept (drop l.i l.text)
