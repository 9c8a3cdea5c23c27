-- A choice behind other items.
use Rattle.std.proofs.Common.{arith}
use Rattle.std.proofs.Common.{◌≡◌, ℕ, ◌↔◌, ◌⊎◌, ◌<◌, ◌+◌, List, [], ◌∷◌, ◌++◌, length, take, get_or, Vec, Global, sym, subst, inl, inr, ⊎_elim}
use Rattle.std.proofs.lemmas.List.{take_more}
use Rattle.aa_pattern.specs.declared.item.Item.{Item, Choice}
use Rattle.aa_pattern.specs.Globs.{Matches, SomeMatches}
use Rattle.aa_pattern.specs.Flags.{SomeEnds}
use Rattle.aa_pattern.proofs.Rows.{Allows-Choice}
use Rattle.aa_pattern.proofs.Texts.{Matches-append, Matches-push}

some_ends : (h : List Item) (bs : List (Vec Item Global)) (t : List ℕ) →
    ((a : List ℕ) × (b : List ℕ) × (t ≡ a ++ b) × Matches h a × SomeMatches bs b) ↔ SomeEnds h bs t
some_ends h [] t = (λ p. p.4, λ z. absurd z)
some_ends h (v ∷ bs) t = (
  λ p. ⊎_elim
      (λ (m : Matches v.items p.1). inl ((Matches-append h v.items t).1 (p.0, p.1, p.2, p.3, m)))
      (λ (m : SomeMatches bs p.1). inr ((some_ends h bs t).0 (p.0, p.1, p.2, p.3, m)))
      p.4,
  λ e. ⊎_elim
      (λ (m : Matches (h ++ v.items) t). let p = (Matches-append h v.items t).0 m in (p.0, p.1, p.2, p.3, inl p.4))
      (λ (m : SomeEnds h bs t). let p = (some_ends h bs t).1 m in (p.0, p.1, p.2, p.3, inr p.4))
      e,
)

pub Matches-choice : (h : List Item) (v : Vec (Vec Item Global) Global) (t : List ℕ) → Matches (h ++ Choice v ∷ []) t ↔ SomeEnds h v.items t
Matches-choice h v t = grind (arith, Allows-Choice, Matches-push, some_ends)

pub SomeEnds-push : (h : List Item) (bs : List (Vec Item Global)) (v : Vec Item Global) (t : List ℕ) →
    SomeEnds h (bs ++ v ∷ []) t ↔ (SomeEnds h bs t ⊎ Matches (h ++ v.items) t)
SomeEnds-push h [] v t = (λ e. ⊎_elim (λ m. inr m) (λ z. absurd z) e, λ e. ⊎_elim (λ z. absurd z) (λ m. inl m) e)
SomeEnds-push h (b ∷ bs) v t =
    let ih = SomeEnds-push h bs v t in (
      λ e. ⊎_elim (λ m. inl (inl m)) (λ r. ⊎_elim (λ x. inl (inr x)) (λ y. inr y) (ih.0 r)) e,
      λ e. ⊎_elim (λ (l : Matches (h ++ b.items) t ⊎ SomeEnds h bs t). ⊎_elim (λ m. inl m) (λ x. inr (ih.1 (inl x))) l) (λ y. inr (ih.1 (inr y))) e,
    )

pub SomeEnds-more : (h : List Item) (bs : List (Vec Item Global)) (i : ℕ) (d : Vec Item Global) (t : List ℕ) → i < length bs →
    SomeEnds h (take (i + 1) bs) t ↔ (SomeEnds h (take i bs) t ⊎ Matches (h ++ (get_or bs i d).items) t)
SomeEnds-more h bs i d t lt =
    subst (λ xs. SomeEnds h xs t ↔ (SomeEnds h (take i bs) t ⊎ Matches (h ++ (get_or bs i d).items) t)) (sym (take_more bs i d lt)) (SomeEnds-push h (take i bs) (get_or bs i d) t)
