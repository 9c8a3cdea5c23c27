use Rattle.aa_rules.proofs.lookahead.fault.Goals as goal

pub returns-clause-place : goal.returns-clause-place
returns-clause-place c = (c.args.at, c.spot_at.ensures)
