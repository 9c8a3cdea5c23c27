use Rattle.aa_log.proofs.Apart.{keys_tell}
use Rattle.aa_log.proofs.laws.keys_tell.Goals as goal

pub returns : goal.returns
returns c = keys_tell
