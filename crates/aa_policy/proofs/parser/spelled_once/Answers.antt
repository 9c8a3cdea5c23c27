use Rattle.aa_policy.proofs.Spelled.{spells_once}
use Rattle.aa_policy.proofs.parser.spelled_once.Goals as goal

pub returns : goal.returns
returns c = spells_once
