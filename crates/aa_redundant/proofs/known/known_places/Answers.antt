use Rattle.std.proofs.Common.{List, [], ◌∷◌, ◌++◌, cond, take, get_or, sym, ap, ◌∙◌}
use Rattle.std.specs.List.{list_any}
use Rattle.std.proofs.lemmas.List.{take_more}
use Rattle.aa_redundant.specs.declared.places.RulePlace.{RulePlace}
use Rattle.aa_redundant.specs.Places.{same_place, distinct}
use Rattle.aa_redundant.proofs.Knowing.{places_push}
use Rattle.aa_redundant.proofs.known.known_places.Goals as goal

pub loop-one-preserved : goal.loop-one-preserved
loop-one-preserved c =
    let us = c.args.units.now in
    let all = c.args.all.now in
    let i = c.loop-one.one-index in
    let none : RulePlace = record { unit = 0; at = record { file = 0; byte = 0 } } in
    let p = get_or all i none in record {
      keys = c.in_ok-add_place.ensures.keys;
      places =
          c.in_ok-add_place.ensures.places
          ∙ ap (λ (l : List RulePlace). cond (list_any (same_place us p) l) l (l ++ p ∷ [])) c.loop-one.invariant.places
          ∙ sym (places_push us (take i all) p)
          ∙ ap (distinct (same_place us)) (sym (take_more all i none c.loop-one-test.true));
    }
