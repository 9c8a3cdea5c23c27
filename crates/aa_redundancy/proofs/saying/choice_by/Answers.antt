use Rattle.std.proofs.Common.{ap, ◌∙◌}
use Rattle.aa_compile.specs.Sides.{no_choice, earlier}
use Rattle.aa_compile.proofs.Gathers.{gather_next, gather_all}
use Rattle.aa_compile.proofs.Joins.{earlier_joins}
use Rattle.aa_redundancy.specs.Without.{gone_by}
use Rattle.aa_redundancy.specs.Marks.{choice_of}
use Rattle.aa_redundancy.proofs.saying.choice_by.Goals as goal

pub loop-number-preserved : goal.loop-number-preserved
loop-number-preserved c =
    let chosen = choice_of (gone_by c.args.gone c.args.flags.now) c.args.literal c.args.owned in
    gather_next earlier no_choice earlier_joins chosen c.args.marks.now c.args.row.now c.loop-number.number-index c.loop-number.choice _ _ c.loop-number-test.true
    (c.earlier-choice.ensures ∙ ap (earlier c.loop-number.choice) c.choice_at.ensures) c.loop-number.invariant

pub returns : goal.returns
returns c =
    let chosen = choice_of (gone_by c.args.gone c.args.flags.now) c.args.literal c.args.owned in
    gather_all earlier no_choice earlier_joins chosen c.args.marks.now c.args.row.now c.loop-number.number-index _ _ c.loop-number-test.false c.loop-number.invariant
