use Rattle.aa_changed_rules.proofs.Knowing.{known_next}
use Rattle.aa_changed_rules.proofs.changed.known_of.Goals as goal

pub loop-form-preserved : goal.loop-form-preserved
loop-form-preserved c =
    known_next c.args.forms.now c.loop-form.form-index c.form-item.result c.loop-form.known.keys c.insert.new.self.keys c.as_slice.result c.loop-form-test.true c.form-item.is
    c.as_slice.ensures.value c.in_ok-insert.ensures.updates.0 c.loop-form.invariant
