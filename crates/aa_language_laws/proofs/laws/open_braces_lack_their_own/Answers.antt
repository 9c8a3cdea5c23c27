use Rattle.aa_language_laws.proofs.OpenBraces.{braces_lack}
use Rattle.aa_language_laws.proofs.laws.open_braces_lack_their_own.Goals as goal

pub returns : goal.returns
returns c = braces_lack
