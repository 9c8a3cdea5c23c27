use Rattle.std.proofs.Common.{ap, ◌∙◌}
use Rattle.aa_compile.specs.Said.{both, nothing}
use Rattle.aa_compile.proofs.Gathers.{gather_next, gather_all}
use Rattle.aa_compile.proofs.Joins.{both_joins}
use Rattle.aa_redundancy.specs.Without.{gone_by}
use Rattle.aa_redundancy.specs.Marks.{sets_of}
use Rattle.aa_redundancy.proofs.saying.sets_by.Goals as goal

pub loop-number-preserved : goal.loop-number-preserved
loop-number-preserved c =
    gather_next both nothing both_joins (sets_of (gone_by c.args.gone c.args.flags.now) c.args.owned) c.args.marks.now c.args.row.now c.loop-number.number-index c.loop-number.sets _ _ c.loop-number-test.true
    (c.with-sets.ensures ∙ ap (both c.loop-number.sets) c.sets_at.ensures) c.loop-number.invariant

pub returns : goal.returns
returns c = gather_all both nothing both_joins (sets_of (gone_by c.args.gone c.args.flags.now) c.args.owned) c.args.marks.now c.args.row.now c.loop-number.number-index _ _ c.loop-number-test.false c.loop-number.invariant
