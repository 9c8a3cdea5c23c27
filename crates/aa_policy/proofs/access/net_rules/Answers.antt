use Rattle.aa_rules.specs.Reading.{rule_data}
use Rattle.aa_policy.specs.Spelling.{net_rules_of}
use Rattle.aa_policy.proofs.Growth.{added, rest_step, rest_end}
use Rattle.aa_policy.proofs.access.net_rules.Goals as goal

pub loop-rule-preserved : goal.loop-rule-preserved
loop-rule-preserved c = added _ _ _ _ _ _ c.in_ok-push_net_rule.ensures (rest_step net_rules_of rule_data c.args.rules.now c.loop-rule.rule-index _ c.loop-rule-test.true) c.loop-rule.invariant

pub returns : goal.returns
returns c = rest_end net_rules_of rule_data c.args.rules.now c.loop-rule.rule-index _ _ c.loop-rule-test.false c.loop-rule.invariant
