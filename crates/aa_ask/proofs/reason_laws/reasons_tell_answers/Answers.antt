use Rattle.aa_ask.proofs.Telling.{reasons_tell_answers}
use Rattle.aa_ask.proofs.reason_laws.reasons_tell_answers.Goals as goal

pub returns : goal.returns
returns c = reasons_tell_answers
