use Rattle.aa_log.proofs.Whole.{lines_merged}
use Rattle.aa_log.proofs.laws.lines_are_merged.Goals as goal

pub returns : goal.returns
returns c = lines_merged
