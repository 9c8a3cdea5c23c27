use Rattle.aa_language_laws.proofs.PassedOver.{rules_first}
use Rattle.aa_language_laws.proofs.laws.passed_over_rules_end_first.Goals as goal

pub returns : goal.returns
returns c = rules_first
