use Rattle.std.proofs.Common.{List, length, ap, ◌∙◌}
use Rattle.aa_redundant.specs.declared.places.RulePlace.{RulePlace}
use Rattle.aa_redundant.specs.Places.{same_place, distinct, first_numbers}
use Rattle.aa_redundant.proofs.command.redundant_of.Goals as goal

pub redundant_by_numbers-requires-clause-places : goal.redundant_by_numbers-requires-clause-places
redundant_by_numbers-requires-clause-places c =
    c.as_slice-2.ensures.value ∙ c.in_ok-known.ensures.places ∙ ap (distinct (same_place c.args.decided.units.now)) (c.as_slice.ensures.value ∙ c.in_ok-all.ensures)

pub redundant_by_numbers-requires-clause-numbers : goal.redundant_by_numbers-requires-clause-numbers
redundant_by_numbers-requires-clause-numbers c =
    let d = c.args.decided in
    let all = c.in_ok-known.ensures.places ∙ ap (distinct (same_place d.units.now)) (c.as_slice.ensures.value ∙ c.in_ok-all.ensures) in
    c.as_slice-3.ensures.value ∙ c.in_ok-numbers.ensures ∙ ap (λ (ps : List RulePlace). first_numbers d ps (length d.places.now)) all
