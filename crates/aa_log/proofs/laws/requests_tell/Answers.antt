use Rattle.aa_log.proofs.Askable.{requests_tell}
use Rattle.aa_log.proofs.laws.requests_tell.Goals as goal

pub returns : goal.returns
returns c = requests_tell
