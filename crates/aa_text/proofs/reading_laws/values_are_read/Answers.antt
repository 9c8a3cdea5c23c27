use Rattle.aa_text.proofs.Written.{values}
use Rattle.aa_text.proofs.reading_laws.values_are_read.Goals as goal

pub returns : goal.returns
returns c = values
