use Rattle.aa_engine.proofs.Decided.{run_decided}
use Rattle.aa_engine.proofs.in_memory.run_bytes.Goals as goal

pub returns-clause-text : goal.returns-clause-text
returns-clause-text c = c.run_text_in_turn.ensures.text c.args.bytes.now c.in_ok-asked.ensures.asked

pub returns-clause-cause : goal.returns-clause-cause
returns-clause-cause c = c.run_text_in_turn.ensures.cause c.args.bytes.now c.in_ok-asked.ensures.asked

pub returns-clause-decided : goal.returns-clause-decided
returns-clause-decided c = run_decided

pub returns-in_err-asked-clause-decided : goal.returns-in_err-asked-clause-decided
returns-in_err-asked-clause-decided c = run_decided
