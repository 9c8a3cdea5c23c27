use Rattle.aa_changed_rules.proofs.Knowing.{adds_new, with_it, without_it}
use Rattle.aa_changed_rules.proofs.changed.push_new.Goals as goal

pub returns-in_ok-push : goal.returns-in_ok-push
returns-in_ok-push c =
    adds_new c.args.known.now.keys c.insert.new.self.keys c.args.numbers.now.items c.push.new.self.items c.args.number c.args.form c.in_ok-added.added
    c.in_ok-added.ensures.added c.in_ok-added.ensures.updates.0 (with_it c.in_ok-added.added _ _ c.args.number c.if-added.true c.in_ok-push.ensures.items)

pub returns-else-added : goal.returns-else-added
returns-else-added c =
    adds_new c.args.known.now.keys c.insert.new.self.keys c.args.numbers.now.items c.args.numbers.now.items c.args.number c.args.form c.in_ok-added.added
    c.in_ok-added.ensures.added c.in_ok-added.ensures.updates.0 (without_it c.in_ok-added.added _ c.args.number c.if-added.false)
