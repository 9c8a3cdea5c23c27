use Rattle.aa_representatives.proofs.ApartSaid.{each_class, class_of}
use Rattle.aa_representatives.proofs.apart.classes_apart.Goals as goal

pub returns-clause-each : goal.returns-clause-each
returns-clause-each c =
    let some = c.add_classes.new.classes.items in
    let all = c.add_classes-2.new.classes.items in
    each_class c.args.one.now c.args.from c.args.other.now c.args.to c.args.pattern.now c.new-classes.result.items some all
    c.new-classes.ensures.items c.in_ok-add_classes-2.ensures.kept c.in_ok-add_classes.ensures.each c.in_ok-add_classes-2.ensures.each

pub returns-clause-all : goal.returns-clause-all
returns-clause-all c = λ r d.
    let some = c.add_classes.new.classes.items in
    let all = c.add_classes-2.new.classes.items in
    class_of c.args.one.now c.args.from c.args.other.now c.args.to c.args.pattern.now c.new-classes.result.items some all
    c.new-classes.ensures.items c.in_ok-add_classes-2.ensures.kept c.in_ok-add_classes.ensures.each c.in_ok-add_classes-2.ensures.each
    r.witness (c.in_ok-add_classes.ensures.has r d) (c.in_ok-add_classes-2.ensures.has r d)
