use Rattle.std.proofs.Common.{◌≡◌, ℕ, List, Some, Contains, length, get_or, slice_get, refl, sym, ◌∙◌, subst, arith, below_more}
use Rattle.std.proofs.lemmas.List.{get_or_default}
use Rattle.std.proofs.lemmas.Option.{slice_get_read, same_Some}
use Rattle.aa_regions.specs.declared.regions.Region.{Region}
use Rattle.aa_explain.specs.Clashes.{Conflict, SomeConflict}
use Rattle.aa_explain.proofs.search.clash_among.Goals as goal

pub returns-in-Some-clause-found : goal.returns-in-Some-clause-found
returns-in-Some-clause-found c =
    let s = c.in-Some.ensures.some in
    (s.0, subst (Conflict c.args.rules.now c.in-Some.first c.in-Some.second) (sym c.in_ok-text.ensures.items) s.1)

pub loop-region-preserved : goal.loop-region-preserved
loop-region-preserved c =
    let rules = c.args.rules.now in
    let owners = c.args.owners.now in
    let regions = c.args.regions.now in
    let i = c.loop-region.region-index in
    let here = c.region-item.result in
    below_more _ _ c.loop-region.invariant (λ r is x.
    let same : r ≡ here = same_Some r here (sym is ∙ slice_get_read regions (length regions) i here refl c.loop-region-test.true c.region-item.is) in
    let found = subst (λ (q : Region). SomeConflict rules owners q.numbers q.witness) same x in
    c.in_default.ensures.none (subst (λ l. SomeConflict rules owners l c.as_slice-text.result.now) (sym c.as_slice.ensures)
    (subst (SomeConflict rules owners here.numbers) (sym c.as_slice-text.ensures) found)))

pub returns-clause-none : goal.returns-clause-none
returns-clause-none c = λ r in' x.
    let regions = c.args.regions.now in
    c.loop-region.invariant in'.0 (omega (arith, in'.1, c.loop-region-test.false)) r
    (slice_get_read regions (length regions) in'.0 r refl in'.1 (sym in'.2)) x
