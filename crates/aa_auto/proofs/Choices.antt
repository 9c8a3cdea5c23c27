-- A choice behind other items.
use Rattle.std.proofs.Common.{◌≡◌, ℕ, ◌↔◌, ◌⊎◌, List, [], ◌∷◌, ◌++◌, Vec, Global, refl, ap, ◌∙◌, inl, inr, ⊎_elim}
use Rattle.aa_pattern.specs.declared.item.Item.{Item, Choice, Row_of-Item-Choice-0-1, end_of-Item-Choice-0-1, more_of-Item-Choice-0-1, items_shown-the_row-Item-0, items-the_row-Item-Choice-0-1, items_hidden-the_row-Item-Choice-0-1-1}
use Rattle.aa_pattern.specs.Globs.{Matches, SomeMatches}
use Rattle.aa_pattern.specs.Heads.{heads_within, heads_of_branches, heads_after, heads_of_choice}
use Rattle.aa_pattern.proofs.PlaceHeads.{along}
use Rattle.aa_pattern.proofs.Rows.{rows_of, Allows-Choice}
use Rattle.aa_pattern.proofs.Texts.{Matches-append, Matches-push}
use Rattle.aa_auto.specs.Nodes.{SomeEnds}

pub Matches-choice : (h : List Item) (v : Vec (Vec Item Global) Global) (t : List ℕ) → Matches (h ++ Choice v ∷ []) t ↔ SomeEnds h v.items t
Matches-choice h v t = (
  λ m. let p = (Matches-push h (Choice v) t).0 m in (p.0, p.1, p.2, p.3, (Allows-Choice v p.1).0 p.4),
  λ p. (Matches-push h (Choice v) t).1 (p.0, p.1, p.2, p.3, (Allows-Choice v p.1).1 p.4),
)

SomeMatches-push : (cs : List (Vec Item Global)) (b : Vec Item Global) (t : List ℕ) → SomeMatches (cs ++ b ∷ []) t ↔ (SomeMatches cs t ⊎ Matches b.items t)
SomeMatches-push [] b t = (λ e. ⊎_elim (λ m. inr m) (λ z. absurd z) e, λ e. ⊎_elim (λ z. absurd z) (λ m. inl m) e)
SomeMatches-push (c ∷ cs) b t =
    let r = SomeMatches-push cs b t in (
      λ e. ⊎_elim (λ m. inl (inl m)) (λ s. ⊎_elim (λ x. inl (inr x)) (λ m. inr m) (r.0 s)) e,
      λ e. ⊎_elim (λ (x : Matches c.items t ⊎ SomeMatches cs t). ⊎_elim (λ m. inl m) (λ s. inr (r.1 (inl s))) x) (λ m. inr (r.1 (inr m))) e,
    )

pub SomeEnds-push : (h : List Item) (t : List ℕ) (b : Vec Item Global) (cs : List (Vec Item Global)) → (SomeEnds h cs t ⊎ Matches (h ++ b.items) t) ↔ SomeEnds h (cs ++ b ∷ []) t
SomeEnds-push h t b cs = (
  λ e. ⊎_elim
      (λ (p : SomeEnds h cs t). (p.0, p.1, p.2, p.3, (SomeMatches-push cs b p.1).1 (inl p.4)))
      (λ (m : Matches (h ++ b.items) t). let p = (Matches-append h b.items t).0 m in (p.0, p.1, p.2, p.3, (SomeMatches-push cs b p.1).1 (inr p.4)))
      e,
  λ p. ⊎_elim (λ s. inl (p.0, p.1, p.2, p.3, s)) (λ m. inr ((Matches-append h b.items t).1 (p.0, p.1, p.2, p.3, m))) ((SomeMatches-push cs b p.1).0 p.4),
)

of_branches : {n : _} (h : List Item) (rows : Row_of-Item-Choice-0-1 n) → heads_of_branches h rows ≡ heads_of_choice h (items-the_row-Item-Choice-0-1 _ rows)
of_branches h end_of-Item-Choice-0-1 = refl
of_branches h (more_of-Item-Choice-0-1 shape branch rest) =
    cc (along h branch, ap (heads_after h) (items_shown-the_row-Item-0 shape branch), of_branches h rest)

pub heads_within-Choice : (h : List Item) (v : Vec (Vec Item Global) Global) → heads_within h (Choice v) ≡ heads_of_choice h v.items
heads_within-Choice h v = of_branches h (rows_of (Choice v)).1 ∙ ap (heads_of_choice h) (items_hidden-the_row-Item-Choice-0-1-1 v)
