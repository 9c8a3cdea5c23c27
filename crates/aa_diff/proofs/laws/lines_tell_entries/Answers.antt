use Rattle.aa_diff.proofs.Telling.{lines_tell_entries}
use Rattle.aa_diff.proofs.laws.lines_tell_entries.Goals as goal

pub returns : goal.returns
returns c = lines_tell_entries
