use Rattle.aa_text.proofs.Rising.{places_rise}
use Rattle.aa_text.proofs.place_laws.places_rise.Goals as goal

pub returns : goal.returns
returns c = places_rise
