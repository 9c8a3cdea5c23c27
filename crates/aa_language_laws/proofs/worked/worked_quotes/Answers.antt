use Rattle.aa_language_laws.proofs.Examples.{quote}
use Rattle.aa_language_laws.proofs.worked.worked_quotes.Goals as goal

pub returns : goal.returns
returns c = quote
