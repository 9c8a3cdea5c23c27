-- Patterns by their numbers, each beside something.
use Rattle.std.proofs.Common.{◌≡◌, ℕ, ◌+◌, List, [], ◌∷◌, map, Option, Some, None, refl, sym, ap, ◌∙◌, subst, arith, Contains}
use Rattle.std.specs.List.{filter, slice_get}
use Rattle.std.specs.Option.{option_map}
use Rattle.std.proofs.lemmas.Option.{slice_get-map}
use Rattle.aa_pattern.specs.Globs.{Matches}
use Rattle.aa_pattern.specs.declared.pattern.Pattern.{Pattern}
use Rattle.aa_pattern.specs.Matching.{is_match}
use Rattle.aa_pattern.proofs.Decided.{decided}
use Rattle.aa_auto.specs.Tables.{ListsMatching}
use Rattle.aa_compile.specs.Gathered.{picked}
use Rattle.aa_compile.proofs.Pickeds.{Members, picked_is}

pub map_map : {X Y Z : Type 0} (f : Y → Z) (g : X → Y) (xs : List X) → map f (map g xs) ≡ map (λ x. f (g x)) xs
map_map f g [] = refl
map_map f g (x ∷ xs) = ap (λ l. f (g x) ∷ l) (map_map f g xs)

-- the numbers of the patterns that match are those of the hits that do
module _ {A : Type 0} (hits : List (A × Pattern)) (path : List ℕ) where
  from_map : (o : Option (A × Pattern)) (p : Pattern) → option_map (λ h. h.1) o ≡ Some p → (h : A × Pattern) × (o ≡ Some h) × (h.1 ≡ p)
  from_map None p e = absurd (let f = e in cc)
  from_map (Some h) p e = (h, refl, cc)

  pub members : (numbers : List ℕ) → ListsMatching (map (λ h. h.1) hits) path numbers → Members (λ h. is_match h.1.items.items path) hits 0 numbers
  members numbers lists = record {
    from = λ n c.
        let q = (lists.exact n).0 c in
        let h = from_map (slice_get hits n) q.0 (sym (slice_get-map (λ (h : A × Pattern). h.1) hits n) ∙ q.1) in
        let at : n ≡ 0 + n = omega arith in
        (n, h.0, at, h.1, (decided h.0.1.items.items path).1 (subst (λ (p : Pattern). Matches p.items.items path) (sym h.2) q.2));
    has = λ i h e t.
        let at : i ≡ 0 + i = omega arith in
        subst (Contains numbers) at
        ((lists.exact i).1 (h.1, slice_get-map (λ (h : A × Pattern). h.1) hits i ∙ ap (option_map (λ (h : A × Pattern). h.1)) e, (decided h.1.items.items path).0 t));
  }

  pub hits_at : (numbers : List ℕ) → ListsMatching (map (λ h. h.1) hits) path numbers → picked hits numbers ≡ filter (λ h. is_match h.1.items.items path) hits
  hits_at numbers lists = picked_is (λ h. is_match h.1.items.items path) hits numbers lists.rising (members numbers lists)
