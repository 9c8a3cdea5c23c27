use Rattle.aa_language_laws.proofs.Modes.{modes_are}
use Rattle.aa_language_laws.proofs.laws.modes_are_their_parts.Goals as goal

pub returns : goal.returns
returns c = modes_are
