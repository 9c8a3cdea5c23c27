use Rattle.std.proofs.Common.{◌≡◌, map}
use Rattle.aa_text.specs.Excerpts.{without_return}
use Rattle.aa_files.specs.Texts.{slices}
use Rattle.aa_report.proofs.lines.lines_in.Given as goal

abbrev pub invariant-loop-line : goal.invariant-loop-line
invariant-loop-line l = slices l.lines.items ≡ map without_return (map (λ s. s.now) l.yielded)
