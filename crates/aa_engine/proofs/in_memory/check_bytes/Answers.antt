use Rattle.aa_engine.proofs.Decided.{check_decided}
use Rattle.aa_engine.proofs.in_memory.check_bytes.Goals as goal

pub returns-clause-text : goal.returns-clause-text
returns-clause-text c = c.check_text.ensures.text c.args.bytes.now c.in_ok-asked.ensures.asked

pub returns-clause-cause : goal.returns-clause-cause
returns-clause-cause c = c.check_text.ensures.cause c.args.bytes.now

pub returns-clause-decided : goal.returns-clause-decided
returns-clause-decided c = check_decided

pub returns-in_err-asked-clause-decided : goal.returns-in_err-asked-clause-decided
returns-in_err-asked-clause-decided c = check_decided
