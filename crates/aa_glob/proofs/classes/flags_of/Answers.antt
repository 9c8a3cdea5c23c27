use Rattle.std.proofs.lemmas.Grind.{common_steps}
use Rattle.std.proofs.Common.{arith, length-set, below_more, get_or-set_other, get_or-set_same}
use Rattle.aa_glob.proofs.ClassSteps.{flags_same}
use Rattle.aa_glob.proofs.classes.flags_of.Goals as goal

pub loop-byte-preserved : goal.loop-byte-preserved
loop-byte-preserved c = grind (arith, common_steps, length-set, below_more, get_or-set_other, get_or-set_same)

pub returns : goal.returns
returns c = grind (arith, common_steps, flags_same)
