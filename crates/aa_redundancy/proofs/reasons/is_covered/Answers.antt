use Rattle.std.proofs.Common.{◌≡◌, ◌∙◌, ℕ, List, Bool, false, All, length, sym, ap, subst, arith}
use Rattle.std.proofs.lemmas.List.{length-map}
use Rattle.std.specs.Global.{Global}
use Rattle.std.specs.declared.vec.Vec.{Vec}
use Rattle.aa_redundancy.specs.declared.mentions.RowNumber.{RowNumber}
use Rattle.aa_redundancy.specs.Without.{marked, gone_by}
use Rattle.aa_redundancy.specs.Covering.{Within}
use Rattle.aa_redundancy.specs.Mentions.{lists, RelatedAt}
use Rattle.aa_redundancy.specs.Reasons.{others_than}
use Rattle.aa_redundancy.proofs.Mentioning.{rows_are}
use Rattle.aa_redundancy.proofs.Keeping.{only_is}
use Rattle.aa_redundancy.proofs.Reasoning.{related_alike, rest_within}
use Rattle.aa_redundancy.proofs.reasons.is_covered.Goals as goal

pub returns-clause-covered : goal.returns-clause-covered
returns-clause-covered c = λ e.
    let b = c.args.beside.now in
    let ts = c.args.tables.now in
    let listed = c.args.listed.now in
    let i = c.args.number in
    let long = length-map listed (λ (v : Vec RowNumber Global). v.items) in
    let one = gone_by false c.as_slice.result.now in
    let gone = marked c.as_slice-2.result.now in
    let is : (n : ℕ) → one n ≡ others_than i n =
    λ n. ap (λ (fs : List Bool). gone_by false fs n) c.as_slice.ensures.value ∙ only_is (length b.gone.items) i b.only.items c.requires.keeps.none (omega (arith, c.requires.within, c.requires.many)) n in
    let rows = rows_are listed i c.index-listed-number.result c.as_slice-rows.result.now c.requires.within c.index-listed-number.is c.as_slice-rows.ensures.value in
    related_alike Within ts one gone (others_than i) (marked b.gone.items) is (λ n. ap (λ (fs : List Bool). marked fs n) c.as_slice-2.ensures.value)
    (rest_within ts (lists listed) i one gone c.requires.rows (omega (arith, long, c.requires.within)) is (subst (All (RelatedAt Within ts one gone)) rows (c.within_in_all-covered.ensures.same e)))

pub returns-clause-overruled : goal.returns-clause-overruled
returns-clause-overruled c = λ e h.
    let b = c.args.beside.now in
    let i = c.args.number in
    let one = gone_by false c.as_slice.result.now in
    let is : (n : ℕ) → one n ≡ others_than i n =
    λ n. ap (λ (fs : List Bool). gone_by false fs n) c.as_slice.ensures.value ∙ only_is (length b.gone.items) i b.only.items c.requires.keeps.none (omega (arith, c.requires.within, c.requires.many)) n in
    c.within_in_all-covered.ensures.differs e
    (related_alike Within c.args.tables.now (others_than i) (marked b.gone.items) one (marked c.as_slice-2.result.now) (λ n. sym (is n)) (λ n. ap (λ (fs : List Bool). marked fs n) (sym c.as_slice-2.ensures.value)) h)
