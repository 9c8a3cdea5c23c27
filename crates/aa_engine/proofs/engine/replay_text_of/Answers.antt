use Rattle.aa_engine.proofs.engine.replay_text_of.Goals as goal

pub returns-clause-text : goal.returns-clause-text
returns-clause-text c = c.replay_text.ensures.text c.args.bytes.items c.in_ok-asked.ensures.asked

pub returns-clause-cause : goal.returns-clause-cause
returns-clause-cause c = c.replay_text.ensures.cause c.args.bytes.items c.in_ok-asked.ensures.asked
