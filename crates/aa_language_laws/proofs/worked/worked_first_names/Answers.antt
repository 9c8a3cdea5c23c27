use Rattle.aa_language_laws.proofs.Examples.{left_out_first, unknown_first, faulty_first, owned_first}
use Rattle.aa_language_laws.proofs.worked.worked_first_names.Goals as goal

pub returns-clause-left_out : goal.returns-clause-left_out
returns-clause-left_out c = left_out_first

pub returns-clause-unknown : goal.returns-clause-unknown
returns-clause-unknown c = unknown_first

pub returns-clause-faulty : goal.returns-clause-faulty
returns-clause-faulty c = faulty_first

pub returns-clause-owned : goal.returns-clause-owned
returns-clause-owned c = owned_first
