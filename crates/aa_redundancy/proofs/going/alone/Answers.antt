use Rattle.std.proofs.Common.{◌∙◌}
use Rattle.aa_redundancy.specs.Without.{only}
use Rattle.aa_redundancy.specs.Tables.{SameTables}
use Rattle.aa_redundancy.proofs.Marking.{many_more, those_more}
use Rattle.aa_redundancy.proofs.going.alone.Goals as goal

pub loop-number-preserved : goal.loop-number-preserved
loop-number-preserved c = record {
  wide = c.goes_alone-goes.ensures.many ∙ c.loop-number.invariant.wide;
  none = c.goes_alone-goes.ensures.still;
  many = many_more c.loop-number.flags.items c.push.new.self.items c.loop-number.number c.goes_alone-goes.result c.loop-number.invariant.many c.in_ok-push.ensures.items;
  those = those_more (λ i. SameTables c.args.tables.now (only i)) c.loop-number.flags.items c.push.new.self.items c.loop-number.number c.goes_alone-goes.result c.loop-number.invariant.many c.in_ok-push.ensures.items
      c.goes_alone-goes.ensures.same c.goes_alone-goes.ensures.differs c.loop-number.invariant.those;
}
