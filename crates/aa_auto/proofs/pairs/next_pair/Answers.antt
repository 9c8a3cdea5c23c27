use Rattle.std.proofs.Common.{◌<◌, length, arith}
use Rattle.aa_auto.proofs.PairLemmas.{extends_key, has_more, still_met}
use Rattle.aa_auto.proofs.pairs.next_pair.Goals as goal

pub returns-then-len-limit-clause-too_many : goal.returns-then-len-limit-clause-too_many
returns-then-len-limit-clause-too_many c = λ _.
    let more : c.args.limit < length c.add.new.self = omega (arith, c.if-len-limit.true, c.len.ensures) in
    has_more c.args.dead c.args.one.now c.args.other.now c.requires.sides c.args.keys.now c.add.new.self c.args.row c.args.byte c.args.next c.in_ok-number.number c.ranges.byte.fits
    c.requires.met c.requires.row c.requires.next c.in_ok-number.ensures c.args.limit c.requires.few more

pub returns-clause-met : goal.returns-clause-met
returns-clause-met c =
    still_met c.args.dead c.args.one.now c.args.other.now c.requires.sides c.args.keys.now c.add.new.self c.args.row c.args.byte c.args.next c.in_ok-number.number c.ranges.byte.fits
    c.requires.met c.requires.row c.requires.next c.in_ok-number.ensures

pub returns-clause-extends : goal.returns-clause-extends
returns-clause-extends c = extends_key c.args.keys.now c.add.new.self c.args.next c.in_ok-number.number c.in_ok-number.ensures
