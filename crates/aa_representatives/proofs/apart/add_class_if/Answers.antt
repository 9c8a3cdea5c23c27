use Rattle.std.proofs.lemmas.Result.{on_ok_weaker}
use Rattle.aa_representatives.proofs.ApartSaid.{each_with}
use Rattle.aa_representatives.proofs.apart.add_class_if.Goals as goal

pub returns-clause-each : goal.returns-clause-each
returns-clause-each c =
    on_ok_weaker c.add_class.result
    (each_with c.args.one.now c.args.from c.args.other.now c.args.to c.args.pattern.now c.args.wanted
    c.args.classes.now.items c.add_class.new.classes.items c.args.path.now c.is_matched-is.result c.said_at-said.result c.said_at-also.result
    c.requires c.is_matched-is.ensures c.if-is-wanted.false c.said_at-said.ensures c.said_at-also.ensures)
    c.add_class.ensures.each
