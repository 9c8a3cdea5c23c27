use Rattle.std.proofs.Common.{false, ℕ, List, Contains, sym, subst}
use Rattle.std.proofs.lemmas.List.Elements.{Contains-get_or}
use Rattle.aa_redundancy.specs.Without.{marked, gone_by}
use Rattle.aa_redundancy.specs.Tables.{RowRelated}
use Rattle.aa_redundancy.specs.Covering.{Within}
use Rattle.aa_redundancy.proofs.tables.within_in.Goals as goal

pub returns-clause-differs : goal.returns-clause-differs
returns-clause-differs c = λ e s.
    let row = c.index-rows-number.result in
    let there : Contains c.args.rows.now row = subst (Contains c.args.rows.now) (sym c.index-rows-number.is) (Contains-get_or c.args.rows.now c.args.number row c.if-number-rows.false) in
    c.within_row.ensures.differs e
    (subst (λ (l : List ℕ). RowRelated Within c.args.marks.now (gone_by false c.args.only.now) (marked c.args.gone.now) l) (sym c.as_slice.ensures) (s row there))
