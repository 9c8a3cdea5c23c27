-- Files that could decide, found one after another.
use Rattle.std.proofs.Common.{◌≡◌, ℕ, ◌+◌, ◌<◌, List, [], ◌∷◌, ◌++◌, length, map, take, get_or, Bool, true, false, refl, ap, sym, ◌∙◌}
use Rattle.std.specs.Prelude.{if◌then◌else◌, filter}
use Rattle.std.proofs.lemmas.List.{map-append}
use Rattle.std.proofs.lemmas.List.Elements.{filter_more}
use Rattle.aa_skipped.specs.declared.skipped.Skipped.{Skipped}
use Rattle.aa_undecided.specs.Answers.{PlacedFile, placed}

placed_if : (b : Bool) (file : Skipped) → map placed (if b then file ∷ [] else []) ≡ (if b then placed file ∷ [] else [])
placed_if true file = refl
placed_if false file = refl

-- one file more is looked at
pub kept_more : (p : Skipped → Bool) (skipped : List Skipped) (i : ℕ) (file : Skipped) (b : Bool) (before after : List PlacedFile) → i < length skipped → file ≡ get_or skipped i file
    → b ≡ p file → after ≡ before ++ (if b then placed file ∷ [] else []) → before ≡ map placed (filter p (take i skipped)) → after ≡ map placed (filter p (take (i + 1) skipped))
kept_more p skipped i file b before after lt item could put is =
    let one : List Skipped → List Skipped = λ xs. filter p (take i skipped) ++ xs in
    let more : one (if b then file ∷ [] else []) ≡ filter p (take (i + 1) skipped) = ap (λ (c : Bool). one (if c then file ∷ [] else [])) could
    ∙ (ap (λ (k : Skipped). one (if p k then k ∷ [] else [])) item ∙ sym (filter_more p skipped i file lt)) in
    put ∙ (ap (λ (l : List PlacedFile). l ++ (if b then placed file ∷ [] else [])) is
    ∙ (ap (λ (l : List PlacedFile). map placed (filter p (take i skipped)) ++ l) (sym (placed_if b file))
    ∙ (sym (map-append placed (filter p (take i skipped)) (if b then file ∷ [] else [])) ∙ ap (map placed) more)))
