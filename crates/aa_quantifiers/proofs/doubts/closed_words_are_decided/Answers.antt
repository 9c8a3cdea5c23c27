use Rattle.aa_quantifiers.proofs.Closing.{closed_words}
use Rattle.aa_quantifiers.proofs.doubts.closed_words_are_decided.Goals as goal

pub returns : goal.returns
returns c = closed_words
