use Rattle.aa_against.proofs.Sound.{replays_hold}
use Rattle.aa_against.proofs.laws.replays_are_sound.Goals as goal

pub returns : goal.returns
returns c = replays_hold c.answers_are_sound.ensures.answers c.skipping_is_sound.ensures.names
