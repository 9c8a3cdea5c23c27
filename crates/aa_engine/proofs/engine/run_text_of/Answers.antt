use Rattle.aa_engine.proofs.engine.run_text_of.Goals as goal

pub returns-clause-text : goal.returns-clause-text
returns-clause-text g c = c.run_text.ensures.text c.args.bytes.items c.in_ok-asked.ensures.asked

pub returns-clause-cause : goal.returns-clause-cause
returns-clause-cause g c = c.run_text.ensures.cause c.args.bytes.items c.in_ok-asked.ensures.asked
