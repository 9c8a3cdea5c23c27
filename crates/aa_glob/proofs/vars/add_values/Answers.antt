use Rattle.std.proofs.lemmas.Grind.{common_steps}
use Rattle.std.proofs.Common.{arith}
use Rattle.std.proofs.lemmas.List.{map-append}
use Rattle.aa_glob.proofs.VarSteps.{more_at, same_at}
use Rattle.aa_glob.proofs.vars.add_values.Goals as goal

pub returns-clause-ok : goal.returns-clause-ok
returns-clause-ok c = grind (arith, common_steps, more_at, map-append)

pub returns-clause-err : goal.returns-clause-err
returns-clause-err c = grind (arith, common_steps, same_at)
