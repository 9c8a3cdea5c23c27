use Rattle.std.proofs.Common.{[], refl, sym, subst}
use Rattle.aa_assert.specs.declared.passage.Lead.{Lead}
use Rattle.aa_assert.specs.Passages.{IsLead}
use Rattle.aa_assert.proofs.Passing.{whole_openings, through_it, without_it}
use Rattle.aa_assert.proofs.passage.lead_to.Goals as goal

pub arrivals_beside-requires-clause-openings : goal.arrivals_beside-requires-clause-openings
arrivals_beside-requires-clause-openings c = whole_openings c.args.policies.now [] [] refl

pub returns-in-Some : goal.returns-in-Some
returns-in-Some c =
    let found = c.in_ok-found.found in
    through_it _ refl refl c.args.limit c.args.from c.args.labels.now c.as_slice-arrivals.result.now found.arrivals.items found.untold.items
    c.as_slice-arrivals.ensures.value c.in_ok-found.ensures.arrivals c.in_ok-found.ensures.untold c.in-Some.number c.in_ok-way_to-in-Some.field-0
    c.in_ok-way_to-in-Some.ensures (sym c.in-Some.ensures.found)

pub returns : goal.returns
returns c =
    let found = c.in_ok-found.found in
    subst (λ (lead : Lead). IsLead c.args.only_clean c.args.policies.now c.args.limit c.args.from c.args.labels.now lead) (sym c.lead_past.ensures)
    (without_it _ refl refl c.args.limit c.args.from c.args.labels.now c.as_slice-arrivals.result.now found.arrivals.items found.untold.items
    c.as_slice-arrivals.ensures.value c.in_ok-found.ensures.arrivals c.in_ok-found.ensures.untold c.as_slice.result.now c.as_slice.ensures.value
    (sym c.in-None.ensures.found))
