use Rattle.aa_notation.proofs.Reading.{words_are_read}
use Rattle.aa_notation.proofs.laws.words_are_read.Goals as goal

pub returns : goal.returns
returns c = words_are_read
