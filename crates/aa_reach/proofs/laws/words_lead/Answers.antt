use Rattle.aa_reach.proofs.Leading.{words_lead}
use Rattle.aa_reach.proofs.laws.words_lead.Goals as goal

pub returns : goal.returns
returns c = words_lead
