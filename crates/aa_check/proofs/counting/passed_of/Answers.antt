use Rattle.std.proofs.lemmas.Grind.{common_steps}
use Rattle.std.proofs.Common.{arith}
use Rattle.aa_check.proofs.counting.passed_of.Goals as goal

pub loop-rule-init : goal.loop-rule-init
loop-rule-init c = grind (arith, common_steps)

pub count_rule-requires : goal.count_rule-requires
count_rule-requires c = grind (arith, common_steps)

pub loop-rule-preserved : goal.loop-rule-preserved
loop-rule-preserved c = grind (arith, common_steps)

pub returns-clause-each : goal.returns-clause-each
returns-clause-each c = grind (arith, common_steps)
