use Rattle.aa_redundancy.proofs.Silent.{beside_none}
use Rattle.aa_redundancy.proofs.laws.rules_beside_none_match_nothing.Goals as goal

pub returns : goal.returns
returns c = beside_none
