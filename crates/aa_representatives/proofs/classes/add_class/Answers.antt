use Rattle.aa_representatives.specs.declared.classes.Class.{Class}
use Rattle.aa_representatives.proofs.Linking.{class_made, class_pushed, class_there}
use Rattle.aa_representatives.proofs.classes.add_class.Goals as goal

pub returns-clause-each : goal.returns-clause-each
returns-clause-each c = λ p is before.
    let made : Class = record { owned = c.verdict-owned.result; other = c.verdict-other.result; path = c.in_ok-path.path } in
    class_pushed p.files c.args.classes.now.items c.push.new.self.items made c.in_ok-push.ensures.items
    (class_made p.files made c.args.path.now c.in_ok-path.ensures c.requires.path (record { owned = c.verdict-owned.ensures p is; other = c.verdict-other.ensures p is })) before

pub returns-clause-has : goal.returns-clause-has
returns-clause-has c = λ p is.
    let made : Class = record { owned = c.verdict-owned.result; other = c.verdict-other.result; path = c.in_ok-path.path } in
    (made, class_there c.args.classes.now.items c.push.new.self.items made c.in_ok-push.ensures.items, record { owned = c.verdict-owned.ensures p is; other = c.verdict-other.ensures p is })
