use Rattle.std.proofs.Common.{◌≡◌, ◌+◌, ◌≤◌, drop}
use Rattle.aa_words.specs.Runs.{skip_len, skip_start}
use Rattle.aa_words.proofs.skips.skip_length.Given as goal

abbrev pub invariant-loop-i : goal.invariant-loop-i
invariant-loop-i l = record {
  long : skip_len skip_start l.text ≡ l.i + skip_len l.place (drop l.i l.text);
  round : l.place.round ≤ l.i;
  curly : l.place.curly ≤ l.i;
  square : l.place.square ≤ l.i;
}
