use Rattle.std.proofs.Common.{ap, arith, add-one}
use Rattle.aa_model.specs.declared.policy.PassedOver.{PassedOver}
use Rattle.aa_load.specs.Joined.{moved_rule}
use Rattle.aa_load.proofs.Moves.{not_yet, one_more}
use Rattle.aa_load.proofs.moving.move_rules.Goals as goal

pub overflow_add-rule : goal.overflow_add-rule
overflow_add-rule c =
    let is = ap (λ (r : PassedOver). r.profile)
    (not_yet (moved_rule c.args.before) c.args.rules.now c.loop-rule.rules c.loop-rule.rule-index c.rule-item.result c.loop-rule.invariant c.loop-rule-test.true) in
    let fits = c.requires c.loop-rule.rule-index c.rule-item.result c.loop-rule-test.true in
    omega (arith, is, fits)

pub loop-rule-preserved : goal.loop-rule-preserved
loop-rule-preserved c =
    rw add-one (one_more (moved_rule c.args.before) c.args.rules.now c.loop-rule.rules c.loop-rule.rule-index c.rule-item.result _ c.loop-rule.invariant c.loop-rule-test.true
    (ap (moved_rule c.args.before)
    (not_yet (moved_rule c.args.before) c.args.rules.now c.loop-rule.rules c.loop-rule.rule-index c.rule-item.result c.loop-rule.invariant c.loop-rule-test.true)))
