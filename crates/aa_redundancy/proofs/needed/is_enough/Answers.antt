use Rattle.std.proofs.Common.{List, Bool, All, length, sym, subst, arith}
use Rattle.std.proofs.lemmas.List.{length-map}
use Rattle.std.specs.Global.{Global}
use Rattle.std.specs.declared.vec.Vec.{Vec}
use Rattle.aa_redundancy.specs.declared.mentions.RowNumber.{RowNumber}
use Rattle.aa_redundancy.specs.Without.{marked}
use Rattle.aa_redundancy.specs.Tables.{Equal, TablesRelated}
use Rattle.aa_redundancy.specs.Mentions.{lists, RelatedAt}
use Rattle.aa_redundancy.proofs.Mentioning.{rows_are}
use Rattle.aa_redundancy.proofs.Reasoning.{enough_by, changes_by}
use Rattle.aa_redundancy.proofs.needed.is_enough.Goals as goal

pub returns-clause-enough : goal.returns-clause-enough
returns-clause-enough c = λ e.
    let b = c.args.beside.now in
    let ts = c.args.tables.now in
    let listed = c.args.listed.now in
    let i = c.args.number in
    let long = length-map listed (λ (v : Vec RowNumber Global). v.items) in
    let rows = rows_are listed i c.index-listed-number.result c.as_slice-rows.result.now c.requires.within c.index-listed-number.is c.as_slice-rows.ensures.value in
    enough_by ts (lists listed) (length b.gone.items) i b c.requires.keeps c.requires.rows (omega (arith, long, c.requires.within))
    (subst (All (RelatedAt Equal ts (marked b.gone.items) (marked b.but.items))) rows
    (subst (λ (fs : List Bool). All (RelatedAt Equal ts (marked b.gone.items) (marked fs)) c.as_slice-rows.result.now) c.as_slice-2.ensures.value
    (subst (λ (fs : List Bool). All (RelatedAt Equal ts (marked fs) (marked c.as_slice-2.result.now)) c.as_slice-rows.result.now) c.as_slice.ensures.value (c.same_in_all.ensures.same e))))

pub returns-clause-changes : goal.returns-clause-changes
returns-clause-changes c = λ e.
    let b = c.args.beside.now in
    let ts = c.args.tables.now in
    changes_by ts (length b.gone.items) c.args.number b c.requires.keeps
    (λ h.
    c.same_in_all.ensures.differs e
    (subst (λ (fs : List Bool). TablesRelated Equal ts (marked fs) (marked c.as_slice-2.result.now)) (sym c.as_slice.ensures.value)
    (subst (λ (fs : List Bool). TablesRelated Equal ts (marked b.gone.items) (marked fs)) (sym c.as_slice-2.ensures.value) h)))
