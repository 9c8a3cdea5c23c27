use Rattle.std.proofs.Common.{Bool, IsTrue, ◌+◌, ◌↔◌, false, get_or, subst, arith, length-set}
use Rattle.aa_pattern.specs.declared.item.Item.{Item}
use Rattle.aa_pattern.specs.Flags.{Grows}
use Rattle.aa_pattern.proofs.GapSteps.{onto_next}
use Rattle.aa_pattern.proofs.gaps.follow_byte.Goals as goal

pub loop-i-preserved : goal.loop-i-preserved
loop-i-preserved c =
    let gaps = c.loop-i.gaps in let i = c.loop-i.i in
    onto_next c.args.items.now c.args.byte c.args.gaps.now gaps c.loop-i.before c.goes.result i c.index-items-i.result c.requires.simple c.loop-i-test.true
    (omega (arith, c.requires.long, c.loop-i.auto.gaps, length-set {A = Bool}))
    (subst (λ (item : Item). IsTrue c.goes.result ↔ Grows item c.args.byte (IsTrue (get_or gaps i false)) (IsTrue c.loop-i.before) (IsTrue (get_or gaps (i + 1) false))) c.index-items-i.is c.goes.ensures)
    c.loop-i.invariant
