use Rattle.std.proofs.Common.{rules}
use Rattle.aa_pattern.proofs.PlaceLaws.{decide_next}
use Rattle.aa_pattern.proofs.places.places_decide_next.Goals as goal

pub returns : goal.returns
returns c = search (rules, decide_next)
