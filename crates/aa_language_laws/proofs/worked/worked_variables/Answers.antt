use Rattle.aa_language_laws.proofs.Examples.{named, pattern, none}
use Rattle.aa_language_laws.proofs.worked.worked_variables.Goals as goal

pub returns-clause-named : goal.returns-clause-named
returns-clause-named c = named

pub returns-clause-pattern : goal.returns-clause-pattern
returns-clause-pattern c = pattern

pub returns-clause-none : goal.returns-clause-none
returns-clause-none c = none
