use Rattle.std.proofs.Common.{arith, ◌≡◌, length, refl, subst, sym}
use Rattle.aa_auto.specs.Finals.{AreFinals}
use Rattle.aa_auto.proofs.FinalLemmas.{finals_more}
use Rattle.aa_auto.proofs.finals.finals_of.Goals as goal

pub loop-number-preserved : goal.loop-number-preserved
loop-number-preserved c =
    finals_more c.args.ends.now c.loop-number.number c.args.many _ c.loop-number.finals.items c.requires.rising c.loop-number-test.true refl
    (c.requires.within c.loop-number.number 0 c.loop-number-test.true) c.loop-number.invariant

pub returns : goal.returns
returns c =
    let e : length c.args.ends.now ≡ c.loop-number.number = omega arith in
    subst (λ k. AreFinals c.args.ends.now k c.args.many c.loop-number.finals.items) (sym e) c.loop-number.invariant
