use Rattle.aa_logs.proofs.Telling.{requested_some, requested_none}
use Rattle.aa_logs.proofs.asked.requested.Goals as goal

pub returns-in-Some : goal.returns-in-Some
returns-in-Some c = requested_some c.file_of.result c.args.words.now c.in-Some.letters.now _ c.in-Some.ensures c.file_of.ensures

pub returns-in-None : goal.returns-in-None
returns-in-None c = requested_none c.args.words.now _ c.in-None.ensures
