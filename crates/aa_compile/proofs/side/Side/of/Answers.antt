use Rattle.std.proofs.Common.{ap, ◌∙◌}
use Rattle.aa_compile.specs.Sides.{one, none_said, joined}
use Rattle.aa_compile.proofs.Gathers.{gather_next, gather_all}
use Rattle.aa_compile.proofs.Joins.{joined_joins}
use Rattle.aa_compile.proofs.side.Side.of.Goals as goal

pub loop-number-preserved : goal.loop-number-preserved
loop-number-preserved c =
    gather_next joined none_said joined_joins (one c.args.owned) c.args.marks.now c.args.numbers.now c.loop-number.number-index c.loop-number.side _ _ c.loop-number-test.true
    (c.with-side.ensures ∙ ap (joined c.loop-number.side) c.at.ensures) c.loop-number.invariant

pub returns : goal.returns
returns c = gather_all joined none_said joined_joins (one c.args.owned) c.args.marks.now c.args.numbers.now c.loop-number.number-index _ _ c.loop-number-test.false c.loop-number.invariant
