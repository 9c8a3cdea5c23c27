use Rattle.std.proofs.Common.{false, All, subst}
use Rattle.std.proofs.lemmas.List.{take_all}
use Rattle.aa_redundancy.specs.declared.mentions.RowNumber.{RowNumber}
use Rattle.aa_redundancy.specs.Without.{marked, gone_by}
use Rattle.aa_redundancy.specs.Covering.{Within}
use Rattle.aa_redundancy.specs.Mentions.{RelatedAt}
use Rattle.aa_redundancy.proofs.Reasoning.{all_more}
use Rattle.aa_redundancy.proofs.tables.within_in_all.Goals as goal

pub loop-number-preserved : goal.loop-number-preserved
loop-number-preserved c =
    let none : RowNumber = record { table = 0; row = 0 } in
    all_more (RelatedAt Within c.args.tables.now (gone_by false c.args.only.now) (marked c.args.gone.now)) c.args.rows.now c.loop-number.number none c.loop-number-test.true c.loop-number.invariant
    (c.within_at-same.ensures.same c.if-not-same.false)

pub returns-clause-same : goal.returns-clause-same
returns-clause-same c = λ e.
    subst (All (RelatedAt Within c.args.tables.now (gone_by false c.args.only.now) (marked c.args.gone.now))) (take_all c.loop-number.number c.args.rows.now c.loop-number-test.false) c.loop-number.invariant
