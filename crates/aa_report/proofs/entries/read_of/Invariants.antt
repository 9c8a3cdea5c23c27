use Rattle.std.proofs.Common.{◌≡◌, take}
use Rattle.std.specs.Prelude.{filter}
use Rattle.aa_files.specs.Texts.{slices}
use Rattle.aa_report.specs.Entries.{is_read}
use Rattle.aa_report.proofs.entries.read_of.Given as goal

abbrev pub invariant-loop-line : goal.invariant-loop-line
invariant-loop-line l = slices l.read.items ≡ filter is_read (slices (take l.line-index l.lines))
