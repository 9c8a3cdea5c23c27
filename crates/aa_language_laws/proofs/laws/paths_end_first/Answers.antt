use Rattle.aa_language_laws.proofs.Paths.{paths_first}
use Rattle.aa_language_laws.proofs.laws.paths_end_first.Goals as goal

pub returns : goal.returns
returns c = paths_first
