use Rattle.std.proofs.Common.{◌≡◌, ◌++◌, take}
use Rattle.std.specs.List.{flat_map}
use Rattle.aa_files.specs.Texts.{slices}
use Rattle.aa_report.specs.Accepted.{gone_if}
use Rattle.aa_report.proofs.accepted.push_each_gone.Given as goal

abbrev pub invariant-loop-line : goal.invariant-loop-line
invariant-loop-line l = l.out.items ≡ l.fn.out.items ++ flat_map (gone_if (slices l.found)) (slices (take l.line-index l.lines))
