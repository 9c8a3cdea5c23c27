use Rattle.std.proofs.Common.{ℕ, List, Option, length, ap, ◌∙◌}
use Rattle.std.specs.Prelude.{unwrap_or, position}
use Rattle.aa_redundant.specs.declared.places.RulePlace.{RulePlace}
use Rattle.aa_redundant.specs.Places.{same_place}
use Rattle.aa_redundant.specs.Known.{IsKeyOf}
use Rattle.aa_redundant.proofs.Knowing.{position_same}
use Rattle.aa_redundant.proofs.known.number_of.Goals as goal

pub returns : goal.returns
returns c =
    let us = c.args.units.now in
    let ps = c.args.known.now.places.items in
    let is : IsKeyOf us c.key_of-key.result c.args.one = record { path = c.key_of-key.ensures.path; byte = c.key_of-key.ensures.byte } in
    c.unwrap_or.ensures
    ∙ ap (λ (o : Option ℕ). unwrap_or o (length c.as_slice-places.result.now)) (c.get_index_of.ensures.index ∙ position_same us c.args.known.now.keys.keys ps c.key_of-key.result c.args.one c.requires is)
    ∙ ap (λ (l : List RulePlace). unwrap_or (position (same_place us c.args.one) ps) (length l)) c.as_slice-places.ensures.value
