use Rattle.aa_language_laws.proofs.Examples.{parentheses, comment, within}
use Rattle.aa_language_laws.proofs.worked.worked_rules.Goals as goal

pub returns-clause-parentheses : goal.returns-clause-parentheses
returns-clause-parentheses c = parentheses

pub returns-clause-comment : goal.returns-clause-comment
returns-clause-comment c = comment

pub returns-clause-within : goal.returns-clause-within
returns-clause-within c = within
