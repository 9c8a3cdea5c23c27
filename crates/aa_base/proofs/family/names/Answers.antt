use Rattle.std.proofs.Common.{refl}
use Rattle.aa_base.specs.Tables.{family_names}
use Rattle.aa_base.proofs.family.names.Goals as goal

pub returns-clause-entries : goal.returns-clause-entries
unfolding family_names
returns-clause-entries c = refl
