use Rattle.aa_language_laws.proofs.OpenSigns.{brackets_lack}
use Rattle.aa_language_laws.proofs.laws.open_brackets_lack_their_own.Goals as goal

pub returns : goal.returns
returns c = brackets_lack
