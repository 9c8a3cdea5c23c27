use Rattle.aa_language_laws.proofs.RunEnds.{closes}
use Rattle.aa_language_laws.proofs.laws.quotes_close_first.Goals as goal

pub returns : goal.returns
returns c = closes
