use Rattle.aa_changed_rules.specs.Forms.{lists}
use Rattle.aa_changed_rules.proofs.Knowing.{none_done, done_next}
use Rattle.aa_changed_rules.proofs.changed.alone.Goals as goal

pub loop-number-init : goal.loop-number-init
loop-number-init c =
    none_done c.in_ok-known.known.keys c.new-numbers.result.items (lists c.args.others.now) (lists c.args.forms.now) c.in_ok-known.ensures
    c.new-numbers.ensures.items

pub loop-number-preserved : goal.loop-number-preserved
loop-number-preserved c =
    done_next c.loop-number.known.keys c.push_new.new.known.keys c.loop-number.numbers.items c.push_new.new.numbers.items (lists c.args.others.now)
    c.args.forms.now c.loop-number.number c.index-forms-number.result c.as_slice.result.now c.loop-number-test.true c.index-forms-number.is
    c.as_slice.ensures.value c.in_ok-push_new.ensures c.loop-number.invariant
