use Rattle.aa_mediate.proofs.Agreeing.{chosen_agree}
use Rattle.aa_mediate.proofs.agreement.chosen_rules_agree.Goals as goal

pub returns : goal.returns
returns c = chosen_agree
