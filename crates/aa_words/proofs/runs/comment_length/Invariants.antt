use Rattle.std.proofs.Common.{◌≡◌, ◌+◌, drop}
use Rattle.aa_words.specs.Runs.{comment_len}
use Rattle.aa_words.proofs.runs.comment_length.Given as goal

abbrev pub invariant-loop-i : goal.invariant-loop-i
invariant-loop-i l = comment_len l.text ≡ l.i + comment_len (drop l.i l.text)
