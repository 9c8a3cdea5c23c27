use Rattle.aa_redundancy.proofs.Sparing.{spared_same}
use Rattle.aa_redundancy.proofs.laws.spared_rules_change_no_reply.Goals as goal

pub returns : goal.returns
returns c = λ p q ns us count held g are gone can without l rs asked. spared_same p q ns us count held g are gone can without l rs asked
