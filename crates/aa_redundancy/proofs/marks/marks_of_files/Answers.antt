use Rattle.aa_compile.specs.Ways.{way_by}
use Rattle.aa_redundancy.proofs.Positions.{marks_more}
use Rattle.aa_redundancy.proofs.marks.marks_of_files.Goals as goal

pub loop-number-preserved : goal.loop-number-preserved
loop-number-preserved c =
    marks_more (way_by c.args.rules.now) c.args.rules.now c.loop-number.number c.index-rules-number.result c.loop-number.marks.items c.add_rule.new.marks.items _
    c.loop-number-test.true c.index-rules-number.is c.in_ok-add_rule.ensures c.loop-number.invariant
