use Rattle.std.proofs.Common.{refl}
use Rattle.aa_base.specs.Tables.{capability_names}
use Rattle.aa_base.proofs.cap.names.Goals as goal

pub returns-clause-entries : goal.returns-clause-entries
unfolding capability_names
returns-clause-entries c = refl
