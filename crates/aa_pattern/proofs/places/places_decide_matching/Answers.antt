use Rattle.std.proofs.lemmas.Grind.{common_steps}
use Rattle.std.proofs.Common.{arith}
use Rattle.aa_pattern.proofs.PlaceLaws.{decide_matching}
use Rattle.aa_pattern.proofs.places.places_decide_matching.Goals as goal

pub returns : goal.returns
returns c = grind (arith, common_steps, decide_matching)
