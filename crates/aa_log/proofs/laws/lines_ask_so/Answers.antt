use Rattle.aa_log.proofs.Askable.{lines_ask_so}
use Rattle.aa_log.proofs.laws.lines_ask_so.Goals as goal

pub returns : goal.returns
returns c = lines_ask_so
