use Rattle.std.proofs.Common.{Err, ap}
use Rattle.aa_reach.proofs.Telling.{near_found}
use Rattle.aa_reach.proofs.searching.near_from.Goals as goal

pub near_beside-requires-clause-openings : goal.near_beside-requires-clause-openings
near_beside-requires-clause-openings c = c.requires.beside.rightly

pub returns-in-Ok : goal.returns-in-Ok
returns-in-Ok c = (
  near_found c.args.beside c.requires.beside c.args.only_clean c.args.from c.in-Ok.arrivals.items c.in-Ok.ensures.near,
  c.in-Ok.ensures.few_patterns,
)

pub returns-in-Err-TooManyPatterns : goal.returns-in-Err-TooManyPatterns
returns-in-Err-TooManyPatterns c = c.in-Err-TooManyPatterns.ensures.many_patterns (ap Err c.in-Err-TooManyPatterns.field-0-is)

pub returns-in-Err-TooManyStates : goal.returns-in-Err-TooManyStates
returns-in-Err-TooManyStates c = c.in-Err-TooManyStates.ensures.many_states (ap Err c.in-Err-TooManyStates.field-0-is)
