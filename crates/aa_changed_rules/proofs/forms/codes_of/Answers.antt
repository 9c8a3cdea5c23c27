use Rattle.aa_changed_rules.proofs.Orders.{codes_more}
use Rattle.aa_changed_rules.proofs.forms.codes_of.Goals as goal

pub loop-pattern-preserved : goal.loop-pattern-preserved
loop-pattern-preserved c =
    codes_more c.args.patterns.now c.loop-pattern.pattern-index c.pattern-item.result c.loop-pattern.codes.keys c.insert.new.self.keys c.in_ok-code_of.field-0 c.loop-pattern-test.true
    c.pattern-item.is c.in_ok-code_of.ensures c.in_ok-insert.ensures.keys c.loop-pattern.invariant
