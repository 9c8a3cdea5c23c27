use Rattle.aa_text.proofs.Written.{texts}
use Rattle.aa_text.proofs.reading_laws.texts_are_read.Goals as goal

pub returns : goal.returns
returns c = texts
