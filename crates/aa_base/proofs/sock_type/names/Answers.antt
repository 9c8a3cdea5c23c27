use Rattle.std.proofs.Common.{refl}
use Rattle.aa_base.specs.Tables.{sock_type_names}
use Rattle.aa_base.proofs.sock_type.names.Goals as goal

pub returns-clause-entries : goal.returns-clause-entries
unfolding sock_type_names
returns-clause-entries c = refl
