use Rattle.std.proofs.Common.{List, ◌++◌, Some, map, sym, ap, ◌∙◌}
use Rattle.aa_explain.specs.Places.{PlacesData, places_of, places_data}
use Rattle.aa_explain.proofs.Placing.{one_row}
use Rattle.aa_explain.proofs.places.push_item.Goals as goal

pub returns-clause-found : goal.returns-clause-found
returns-clause-found c =
    let family = c.in_ok-family.ensures.found in (
      Some family.0,
      family.1,
      c.in_ok-push_family.ensures ∙ ap (λ (l : List PlacesData). map places_data c.args.found.now.items ++ l) (family.2 ∙ ap (map places_of) (sym (one_row family.0))),
    )
