use Rattle.aa_language_laws.proofs.RunEnds.{names_first, comments_first, values_first, variables_first}
use Rattle.aa_language_laws.proofs.laws.runs_end_first.Goals as goal

pub returns-clause-names : goal.returns-clause-names
returns-clause-names c = names_first

pub returns-clause-comments : goal.returns-clause-comments
returns-clause-comments c = comments_first

pub returns-clause-values : goal.returns-clause-values
returns-clause-values c = values_first

pub returns-clause-variables : goal.returns-clause-variables
returns-clause-variables c = variables_first
