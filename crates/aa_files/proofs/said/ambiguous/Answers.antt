use Rattle.std.proofs.Common.{rules}
use Rattle.aa_files.proofs.said.ambiguous.Goals as goal

pub returns : goal.returns
returns c = search rules
