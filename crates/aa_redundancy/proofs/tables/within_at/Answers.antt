use Rattle.std.proofs.Common.{false, ℕ, List, Contains, sym, subst}
use Rattle.std.proofs.lemmas.List.Elements.{Contains-get_or}
use Rattle.aa_redundancy.specs.declared.marks.RuleMark.{RuleMark}
use Rattle.aa_redundancy.specs.Without.{marked, gone_by}
use Rattle.aa_redundancy.specs.Tables.{RowsRelated}
use Rattle.aa_redundancy.specs.Covering.{Within}
use Rattle.aa_redundancy.proofs.tables.within_at.Goals as goal

pub returns-clause-differs : goal.returns-clause-differs
returns-clause-differs c = λ e s.
    let t = c.index-tables-row.result in
    let gone = gone_by false c.args.only.now in
    let others = marked c.args.gone.now in
    let there : Contains c.args.tables.now t = subst (Contains c.args.tables.now) (sym c.index-tables-row.is) (Contains-get_or c.args.tables.now c.args.row.table t c.if-row-tables.false) in
    c.within_in.ensures.differs e
    (subst (λ (ms : List RuleMark). RowsRelated Within ms gone others c.as_slice.result.now) (sym c.as_slice-marks.ensures.value)
    (subst (λ (rs : List (List ℕ)). RowsRelated Within t.marks.items gone others rs) (sym c.as_slice.ensures.value) (s t there)))
