use Rattle.std.proofs.Common.{◌≤◌, length, take, ◌-◌}
use Rattle.std.specs.Io.KnownBytes.{Appends}
use Rattle.aa_command.proofs.writing.write_text.Given as goal

abbrev pub invariant-writes : goal.invariant-writes
invariant-writes g l =
    let contents = g.W.Write.contents in
    record {
      written : Appends (contents l.fn.writer) (contents l.writer) (take l.at l.text);
      within : l.at ≤ length l.text;
    }

abbrev pub decreases-writes : goal.decreases-writes
decreases-writes g l = length l.text - l.at
