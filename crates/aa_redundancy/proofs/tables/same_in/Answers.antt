use Rattle.std.proofs.Common.{ℕ, List, Contains, sym, subst}
use Rattle.std.proofs.lemmas.List.Elements.{Contains-get_or}
use Rattle.aa_redundancy.specs.Without.{marked}
use Rattle.aa_redundancy.specs.Tables.{Equal, RowRelated}
use Rattle.aa_redundancy.proofs.tables.same_in.Goals as goal

pub returns-clause-differs : goal.returns-clause-differs
returns-clause-differs c = λ e s.
    let row = c.index-rows-number.result in
    let there : Contains c.args.rows.now row = subst (Contains c.args.rows.now) (sym c.index-rows-number.is) (Contains-get_or c.args.rows.now c.args.number row c.if-number-rows.false) in
    c.same_row.ensures.differs e
    (subst (λ (l : List ℕ). RowRelated Equal c.args.marks.now (marked c.args.gone.now) (marked c.args.others.now) l) (sym c.as_slice.ensures) (s row there))
