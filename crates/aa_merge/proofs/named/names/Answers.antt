use Rattle.std.proofs.Common.{refl}
use Rattle.aa_merge.specs.Reasons.{reason_names}
use Rattle.aa_merge.proofs.named.names.Goals as goal

pub returns-clause-entries : goal.returns-clause-entries
unfolding reason_names
returns-clause-entries c = refl
