-- Items and texts that are cut in two.
use Rattle.std.proofs.Common.{◌≡◌, ℕ, zero, suc, ◌+◌, ◌<◌, ◌≤◌, ◌↔◌, ◌⊎◌, List, [], ◌∷◌, ◌++◌, length, take, drop}
use Rattle.std.proofs.Common.{get_or, Vec, Global, refl, sym, ap, ◌∙◌, subst, length-append, inl, inr, ⊎_elim, arith}
use Rattle.std.proofs.lemmas.List.{take_at, drop_at, append-nil, take_more, take-append-drop}
use Rattle.aa_pattern.specs.declared.item.Item.{Item}
use Rattle.aa_pattern.specs.Globs.{Allows, Matches, SomeMatches}
use Rattle.aa_pattern.specs.Weights.{weight_of_items}
use Rattle.aa_pattern.proofs.Rows.{weight_pos}
use Rattle.aa_pattern.proofs.Texts.{Matches-append}

pub weight_front : (items : List Item) (k : ℕ) → k < length items → weight_of_items (take k items) < weight_of_items items
weight_front [] k h = absurd (omega arith)
weight_front (i ∷ items) zero h = omega (arith, weight_pos i)
weight_front (i ∷ items) (suc k) h = omega (arith, weight_front items k (omega arith))

weight_drop : (items : List Item) (k : ℕ) → weight_of_items (drop k items) ≤ weight_of_items items
weight_drop items zero = omega arith
weight_drop [] (suc k) = omega arith
weight_drop (i ∷ items) (suc k) = omega (arith, weight_drop items k)

pub weight_back : (items : List Item) (k : ℕ) → 0 < k → k < length items → weight_of_items (drop k items) < weight_of_items items
weight_back items zero p h = absurd (omega arith)
weight_back [] (suc k) p h = absurd (omega arith)
weight_back (i ∷ items) (suc k) p h = omega (arith, weight_pos i, weight_drop items k)

-- where some cut of the text serves, the items match
pub some_cut : (items : List Item) (n : ℕ) (text : List ℕ) (k : ℕ) → Matches (take n items) (take k text) → Matches (drop n items) (drop k text) → Matches items text
some_cut items n text k a b =
    subst (λ xs. Matches xs text) (take-append-drop n items) ((Matches-append (take n items) (drop n items) text).1 (take k text, drop k text, sym (take-append-drop k text), a, b))

-- where none does, they don't
pub no_cut : (items : List Item) (n : ℕ) (text : List ℕ) →
    ((k : ℕ) → k ≤ length text → Matches (take n items) (take k text) → Matches (drop n items) (drop k text) → ⊥) → Matches items text → ⊥
no_cut items n text none m =
    let p = (Matches-append (take n items) (drop n items) text).0 (subst (λ xs. Matches xs text) (sym (take-append-drop n items)) m) in
    let front : take (length p.0) text ≡ p.0 = ap (take (length p.0)) p.2 ∙ take_at p.0 p.1 (length p.0) refl in
    let back : drop (length p.0) text ≡ p.1 = ap (drop (length p.0)) p.2 ∙ drop_at p.0 p.1 (length p.0) refl in
    none (length p.0) (omega (arith, ap length p.2, length-append p.0 p.1)) (subst (Matches (take n items)) (sym front) p.3) (subst (Matches (drop n items)) (sym back) p.4)

pub one_item : (items others : List Item) (item : Item) (s : List ℕ) → items ≡ item ∷ others → length items < 2 → Matches items s ↔ Allows item s
one_item items [] item s e h = grind (arith, append-nil)
one_item items (x ∷ others) item s e h = absurd (omega (arith, ap length e))

pub some_push : (bs : List (Vec Item Global)) (k : ℕ) (d : Vec Item Global) (s : List ℕ) → k < length bs →
    SomeMatches (take (k + 1) bs) s ↔ (SomeMatches (take k bs) s ⊎ Matches (get_or bs k d).items s)
some_push bs k d s lt = subst (λ xs. SomeMatches xs s ↔ (SomeMatches (take k bs) s ⊎ Matches (get_or bs k d).items s)) (sym (take_more bs k d lt)) (push (take k bs) (get_or bs k d))
  where
    push : (bs : List (Vec Item Global)) (v : Vec Item Global) → SomeMatches (bs ++ v ∷ []) s ↔ (SomeMatches bs s ⊎ Matches v.items s)
    push [] v = (λ e. ⊎_elim (λ m. inr m) (λ z. absurd z) e, λ e. ⊎_elim (λ z. absurd z) (λ m. inl m) e)
    push (b ∷ bs) v =
        let ih = push bs v in (
          λ e. ⊎_elim (λ m. inl (inl m)) (λ r. ⊎_elim (λ x. inl (inr x)) (λ y. inr y) (ih.0 r)) e,
          λ e. ⊎_elim (λ (l : Matches b.items s ⊎ SomeMatches bs s). ⊎_elim (λ m. inl m) (λ x. inr (ih.1 (inl x))) l) (λ y. inr (ih.1 (inr y))) e,
        )

-- one sequence that matches is enough
pub some_at : (bs : List (Vec Item Global)) (k : ℕ) (d : Vec Item Global) (s : List ℕ) → k < length bs → Matches (get_or bs k d).items s → SomeMatches bs s
some_at [] k d s h m = absurd (omega arith)
some_at (b ∷ bs) zero d s h m = inl m
some_at (b ∷ bs) (suc k) d s h m = inr (some_at bs k d s (omega arith) m)
