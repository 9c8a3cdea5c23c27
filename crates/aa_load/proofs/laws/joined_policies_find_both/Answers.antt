use Rattle.std.proofs.Common.{◌∙◌, length}
use Rattle.aa_load.proofs.Names.{number_moved, number_joined}
use Rattle.aa_load.proofs.laws.joined_policies_find_both.Goals as goal

pub returns : goal.returns
returns c = λ first second name. number_moved name (length first.profiles) first.profiles second.profiles ∙ number_joined name first.profiles second.profiles
