use Rattle.std.proofs.Common.{◌≡◌, take}
use Rattle.std.specs.Prelude.{filter}
use Rattle.aa_files.specs.Texts.{slices}
use Rattle.aa_redundant.specs.Accepted.{is_entry}
use Rattle.aa_redundant.proofs.accepted.entries_of.Given as goal

abbrev pub invariant-loop-line : goal.invariant-loop-line
invariant-loop-line l = slices l.entries.items ≡ filter is_entry (slices (take l.line-index l.lines))
