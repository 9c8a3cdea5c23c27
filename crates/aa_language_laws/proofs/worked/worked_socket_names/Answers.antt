use Rattle.aa_language_laws.proofs.Examples.{condition_name, family_name, unknown_name, fails_first, fails_second}
use Rattle.aa_language_laws.proofs.worked.worked_socket_names.Goals as goal

pub returns-clause-condition : goal.returns-clause-condition
returns-clause-condition c = condition_name

pub returns-clause-family : goal.returns-clause-family
returns-clause-family c = family_name

pub returns-clause-unknown : goal.returns-clause-unknown
returns-clause-unknown c = unknown_name

pub returns-clause-first : goal.returns-clause-first
returns-clause-first c = fails_first

pub returns-clause-second : goal.returns-clause-second
returns-clause-second c = fails_second
