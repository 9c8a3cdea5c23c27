use Rattle.std.proofs.Common.{ℕ, List, [], ◌∷◌, ◌++◌, map, take, sym, ap, ◌∙◌}
use Rattle.std.proofs.lemmas.List.{map_more}
use Rattle.aa_base.specs.declared.fault.Spot.{Spot}
use Rattle.aa_redundant.specs.Places.{number_in}
use Rattle.aa_redundant.proofs.numbers.numbers_in.Goals as goal

pub loop-at-preserved : goal.loop-at-preserved
loop-at-preserved c =
    let f : Spot → ℕ = number_in c.args.units.now c.args.known.now.places.items c.args.unit in
    let spots = c.args.spots.now in
    let i = c.loop-at.at-index in
    let none : Spot = record { file = 0; byte = 0 } in
    c.in_ok-push.ensures.items
    ∙ ap (λ (l : List ℕ). l ++ c.number_of.result ∷ []) c.loop-at.invariant
    ∙ ap (λ (n : ℕ). map f (take i spots) ++ n ∷ []) c.number_of.ensures
    ∙ sym (map_more f spots i none c.loop-at-test.true)
