use Rattle.aa_language_laws.proofs.Examples.{braces, brackets, backslash, letter}
use Rattle.aa_language_laws.proofs.worked.worked_paths.Goals as goal

pub returns-clause-braces : goal.returns-clause-braces
returns-clause-braces c = braces

pub returns-clause-brackets : goal.returns-clause-brackets
returns-clause-brackets c = brackets

pub returns-clause-backslash : goal.returns-clause-backslash
returns-clause-backslash c = backslash

pub returns-clause-letter : goal.returns-clause-letter
returns-clause-letter c = letter
