use Rattle.std.proofs.Common.{arith}
use Rattle.std.proofs.lemmas.Grind.{common_steps}
use Rattle.aa_glob.specs.Expansions.{outcome}
use Rattle.aa_glob.proofs.vars.Vars.values.Goals as goal

pub returns-then-is_reserved_name-clause-err : goal.returns-then-is_reserved_name-clause-err
unfolding outcome
returns-then-is_reserved_name-clause-err c = grind (arith, common_steps)

pub returns-in-None-clause-err : goal.returns-in-None-clause-err
unfolding outcome
returns-in-None-clause-err c = grind (arith, common_steps)
