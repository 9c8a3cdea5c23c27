use Rattle.std.proofs.Common.{◌≡◌, take}
use Rattle.aa_files.specs.Texts.{texts, slices}
use Rattle.aa_report.proofs.lines.slices_of.Given as goal

abbrev pub invariant-loop-line : goal.invariant-loop-line
invariant-loop-line l = slices l.those.items ≡ texts (take l.line-index l.lines)
