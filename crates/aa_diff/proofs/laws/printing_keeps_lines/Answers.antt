use Rattle.aa_diff.proofs.Keeping.{keep_lines}
use Rattle.aa_diff.proofs.laws.printing_keeps_lines.Goals as goal

pub returns : goal.returns
returns c = keep_lines
