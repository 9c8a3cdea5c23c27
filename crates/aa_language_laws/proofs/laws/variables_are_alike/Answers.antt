use Rattle.aa_language_laws.proofs.VariableNames.{whole_variables, assigned_variables, pattern_variables}
use Rattle.aa_language_laws.proofs.laws.variables_are_alike.Goals as goal

pub returns-clause-words : goal.returns-clause-words
returns-clause-words c = whole_variables

pub returns-clause-assigned : goal.returns-clause-assigned
returns-clause-assigned c = assigned_variables

pub returns-clause-patterns : goal.returns-clause-patterns
returns-clause-patterns c = pattern_variables
