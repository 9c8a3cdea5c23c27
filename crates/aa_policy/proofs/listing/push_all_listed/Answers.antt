use Rattle.aa_rules.specs.Reading.{rule_data}
use Rattle.aa_policy.specs.Spelling.{listed_at}
use Rattle.aa_policy.proofs.Growth.{added, rest_step, rest_end}
use Rattle.aa_policy.proofs.listing.push_all_listed.Goals as goal

pub loop-rule-preserved : goal.loop-rule-preserved
loop-rule-preserved c = added _ _ _ _ _ _ c.in_ok-push_listed.ensures (rest_step (listed_at c.args.number) rule_data c.args.rules.now c.loop-rule.rule-index _ c.loop-rule-test.true) c.loop-rule.invariant

pub returns : goal.returns
returns c = rest_end (listed_at c.args.number) rule_data c.args.rules.now c.loop-rule.rule-index _ _ c.loop-rule-test.false c.loop-rule.invariant
