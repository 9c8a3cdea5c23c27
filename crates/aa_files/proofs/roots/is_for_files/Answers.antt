use Rattle.std.proofs.Common.{rules}
use Rattle.aa_files.proofs.roots.is_for_files.Goals as goal

pub returns-then-eq-clause-told : goal.returns-then-eq-clause-told
returns-then-eq-clause-told g c = search rules

pub returns-in-Ok-clause-told : goal.returns-in-Ok-clause-told
returns-in-Ok-clause-told g c = search rules
