use Rattle.std.proofs.Common.{◌≡◌, ◌+◌, ◌≤◌, drop}
use Rattle.aa_words.specs.Runs.{path_len, path_start}
use Rattle.aa_words.proofs.runs.path_length.Given as goal

abbrev pub invariant-loop-i : goal.invariant-loop-i
invariant-loop-i l = record { long : path_len path_start l.text ≡ l.i + path_len l.place (drop l.i l.text); shallow : l.place.depth ≤ l.i }
