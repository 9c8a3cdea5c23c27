use Rattle.std.proofs.Common.{◌≡◌, ◌++◌, false, length}
use Rattle.aa_files.specs.Texts.{slices}
use Rattle.aa_report.specs.Markdown.{lines_text}
use Rattle.aa_report.proofs.markdown.push_lines.Given as goal

abbrev pub invariant-loop-rest : goal.invariant-loop-rest
invariant-loop-rest l = l.out.items ++ lines_text l.before (slices l.rest) ≡ l.initial.out.items ++ lines_text false (slices l.lines)

abbrev pub decreases-loop-rest : goal.decreases-loop-rest
decreases-loop-rest l = length l.rest
