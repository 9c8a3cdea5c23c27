use Rattle.std.proofs.Common.{refl}
use Rattle.aa_base.specs.Tables.{sock_type_names}
use Rattle.aa_representatives.proofs.entries.names_of_types.Goals as goal

pub returns : goal.returns
unfolding sock_type_names
returns c = refl
