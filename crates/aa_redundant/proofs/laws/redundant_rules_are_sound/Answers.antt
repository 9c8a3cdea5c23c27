use Rattle.aa_redundant.proofs.Among.{spared_among}
use Rattle.aa_redundant.proofs.laws.redundant_rules_are_sound.Goals as goal

pub returns : goal.returns
returns c = spared_among c.same_sayings_reply_alike.ensures c.kept_profiles_say_the_same.ensures
