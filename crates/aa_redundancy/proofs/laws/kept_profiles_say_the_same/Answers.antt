use Rattle.aa_redundancy.proofs.Untold.{kept_say_same}
use Rattle.aa_redundancy.proofs.laws.kept_profiles_say_the_same.Goals as goal

pub returns : goal.returns
returns c = kept_say_same
