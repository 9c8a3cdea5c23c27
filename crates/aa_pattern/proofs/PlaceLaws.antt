-- The places of a text decide which patterns match, and what one more byte does.
use Rattle.std.proofs.Common.{◌≡◌, ℕ, ◌↔◌, ◌⊎◌, List, [], ◌∷◌, ◌++◌, length, take, refl, sym, ap, ◌∙◌, subst, inl, inr, ⊎_elim, arith, append_assoc}
use Rattle.std.proofs.lemmas.List.{append-nil, take_all}
use Rattle.aa_pattern.specs.declared.item.Item.{Item, Choice', Row_of-Item, end_of-Item, more_of-Item, items-the_row-Item, Row_of-Item-Choice-0-1, end_of-Item-Choice-0-1, more_of-Item-Choice-0-1}
use Rattle.aa_pattern.specs.declared.pattern.Pattern.{Pattern}
use Rattle.aa_pattern.specs.Globs.{Matches, SomeAllows}
use Rattle.aa_pattern.specs.Places.{Gap, IsPlace, DecideMatching, DecideNext}
use Rattle.aa_pattern.specs.Heads.{heads_within, heads_of_branches, heads_along, heads_after, heads_of_patterns}
use Rattle.aa_pattern.specs.Steps.{IsSimple}
use Rattle.aa_pattern.proofs.Rows.{row_matches}
use Rattle.aa_pattern.proofs.Equivalences.{↔_trans, ↔_sym}
use Rattle.aa_pattern.proofs.FlagSteps.{grows_same}
use Rattle.aa_pattern.proofs.Texts.{Matches-append, Matches-push, Matches-grow, not_empty}
use Rattle.aa_pattern.proofs.PlaceHeads.{SameHeads, heads_from_places, places_from_heads}

-- both texts match the items or neither does
abbrev Same : List ℕ → List ℕ → List Item → Type 0
Same s t h = Matches h s ↔ Matches h t

abbrev Agree : List ℕ → List ℕ → List (List Item) → Type 0
Agree s t [] = Unit {0}
Agree s t (h ∷ hs) = Same s t h × Agree s t hs

agree_split : (s t : List ℕ) (xs ys : List (List Item)) → Agree s t (xs ++ ys) → Agree s t xs × Agree s t ys
agree_split s t [] ys a = (tt, a)
agree_split s t (x ∷ xs) ys a = let r = agree_split s t xs ys a.1 in ((a.0, r.0), r.1)

agree_join : (s t : List ℕ) (xs ys : List (List Item)) → Agree s t xs → Agree s t ys → Agree s t (xs ++ ys)
agree_join s t [] ys a b = b
agree_join s t (x ∷ xs) ys a b = (a.0, agree_join s t xs ys a.1 b)

agree_all : (s t : List ℕ) (hs : List (List Item)) → SameHeads hs s t → Agree s t hs
agree_all s t [] same = tt
agree_all s t (h ∷ hs) same = (same h (inl refl), agree_all s t hs (λ g i. same g (inr i)))

all_agree : (s t : List ℕ) (hs : List (List Item)) → Agree s t hs → SameHeads hs s t
all_agree s t [] a g z = absurd z
all_agree s t (h ∷ hs) a g i = ⊎_elim (λ e. subst (Same s t) (sym e) a.0) (λ r. all_agree s t hs a.1 g r) i

-- a sequence of the choice behind h matches to its end
abbrev RowEnds : {n : _} → List Item → Row_of-Item-Choice-0-1 n → List ℕ → Type 0
RowEnds h end_of-Item-Choice-0-1 u = ⊥
RowEnds h (more_of-Item-Choice-0-1 _ row rest) u = Matches (h ++ items-the_row-Item _ row) u ⊎ RowEnds h rest u

row_ends : {n : _} (h : List Item) (rows : Row_of-Item-Choice-0-1 n) (u : List ℕ) →
    ((a : List ℕ) × (b : List ℕ) × (u ≡ a ++ b) × Matches h a × SomeAllows rows b) ↔ RowEnds h rows u
row_ends h end_of-Item-Choice-0-1 u = (λ p. p.4, λ z. absurd z)
row_ends h (more_of-Item-Choice-0-1 _ row rest) u = (
  λ p. ⊎_elim
      (λ m. inl ((Matches-append h (items-the_row-Item _ row) u).1 (p.0, p.1, p.2, p.3, (row_matches row p.1).0 m)))
      (λ m. inr ((row_ends h rest u).0 (p.0, p.1, p.2, p.3, m)))
      p.4,
  λ e. ⊎_elim
      (λ (m : Matches (h ++ items-the_row-Item _ row) u). let p = (Matches-append h (items-the_row-Item _ row) u).0 m in (p.0, p.1, p.2, p.3, inl ((row_matches row p.1).1 p.4)))
      (λ (m : RowEnds h rest u). let p = (row_ends h rest u).1 m in (p.0, p.1, p.2, p.3, inr p.4))
      e,
)

either_same : {P Q P' Q' : Type 0} → (P ↔ P') → (Q ↔ Q') → (P ⊎ Q) ↔ (P' ⊎ Q')
either_same p q = (λ e. ⊎_elim (λ x. inl (p.0 x)) (λ y. inr (q.0 y)) e, λ e. ⊎_elim (λ x. inl (p.1 x)) (λ y. inr (q.1 y)) e)

module _ (s t : List ℕ) (b : ℕ) where
  abbrev Next : List Item → Type 0
  Next h = Same (s ++ b ∷ []) (t ++ b ∷ []) h

  abbrev Nexts : List (List Item) → Type 0
  Nexts hs = Agree (s ++ b ∷ []) (t ++ b ∷ []) hs

  simple_next : (h : List Item) (i : Item) → IsSimple i → Same s t h → Same s t (h ++ i ∷ []) → Next h → Next (h ++ i ∷ [])
  simple_next h i simple was was_next now = grind (arith, ↔_trans, ↔_sym, grows_same, Matches-grow)

  mutual
    item_next : (h : List Item) (i : Item) → Agree s t (heads_within h i) → Same s t h → Same s t (h ++ i ∷ []) → Next h → Nexts (heads_within h i) × Next (h ++ i ∷ [])
    item_next h (Choice' m rows) a was was_next now =
        let r = rows_next h rows a now in
        let step = λ (u : List ℕ). Matches-push h (Choice' m rows) u in
        (r.0, ↔_trans (step (s ++ b ∷ [])) (↔_trans (row_ends h rows (s ++ b ∷ [])) (↔_trans r.1 (↔_trans (↔_sym (row_ends h rows (t ++ b ∷ []))) (↔_sym (step (t ++ b ∷ [])))))))
    item_next h i a was was_next now = (tt, simple_next h i tt was was_next now)

    rows_next : {n : _} (h : List Item) (rows : Row_of-Item-Choice-0-1 n) → Agree s t (heads_of_branches h rows) → Next h →
        Nexts (heads_of_branches h rows) × (RowEnds h rows (s ++ b ∷ []) ↔ RowEnds h rows (t ++ b ∷ []))
    rows_next h end_of-Item-Choice-0-1 a now = (tt, (λ z. z, λ z. z))
    rows_next h (more_of-Item-Choice-0-1 _ row rest) a now =
        let p = agree_split s t (h ∷ heads_along h row) (heads_of_branches h rest) a in
        let first = row_next h row p.0.0 p.0.1 now in
        let later = rows_next h rest p.1 now in
        (agree_join (s ++ b ∷ []) (t ++ b ∷ []) (h ∷ heads_along h row) (heads_of_branches h rest) (now, first.0) later.0, either_same first.1 later.1)

    row_next : {n : _} (h : List Item) (row : Row_of-Item n) → Same s t h → Agree s t (heads_along h row) → Next h →
        Nexts (heads_along h row) × Next (h ++ items-the_row-Item _ row)
    row_next h end_of-Item was a now = (tt, subst Next (sym (append-nil h)) now)
    row_next h (more_of-Item i rest) was a now =
        let p = agree_split s t (heads_within h i) ((h ++ i ∷ []) ∷ heads_along (h ++ i ∷ []) rest) a in
        let first = item_next h i p.0 was p.1.0 now in
        let later = row_next (h ++ i ∷ []) rest p.1.0 p.1.1 first.1 in (
          agree_join (s ++ b ∷ []) (t ++ b ∷ []) (heads_within h i) ((h ++ i ∷ []) ∷ heads_along (h ++ i ∷ []) rest) first.0 (first.1, later.0),
          subst Next (append_assoc h (i ∷ []) (items-the_row-Item _ rest)) later.1,
        )

  items_next : (h items : List Item) → Same s t h → Agree s t (heads_after h items) → Next h → Nexts (heads_after h items)
  items_next h [] was a now = tt
  items_next h (i ∷ items) was a now =
      let p = agree_split s t (heads_within h i) ((h ++ i ∷ []) ∷ heads_after (h ++ i ∷ []) items) a in
      let first = item_next h i p.0 was p.1.0 now in
      agree_join (s ++ b ∷ []) (t ++ b ∷ []) (heads_within h i) ((h ++ i ∷ []) ∷ heads_after (h ++ i ∷ []) items) first.0
      (first.1, items_next (h ++ i ∷ []) items p.1.0 p.1.1 first.1)

  patterns_next : (ps : List Pattern) → Agree s t (heads_of_patterns ps) → Nexts (heads_of_patterns ps)
  patterns_next [] a = tt
  patterns_next (p ∷ ps) a =
      let r = agree_split s t ([] ∷ heads_after [] p.items.items) (heads_of_patterns ps) a in
      let start : Next [] = (λ e. absurd (not_empty b s e), λ e. absurd (not_empty b t e)) in
      agree_join (s ++ b ∷ []) (t ++ b ∷ []) ([] ∷ heads_after [] p.items.items) (heads_of_patterns ps)
      (start, items_next [] p.items.items r.0.0 r.0.1 start) (patterns_next ps r.1)

pub decide_next : (ps : List Pattern) → DecideNext ps
decide_next ps s t b same =
    places_from_heads ps (s ++ b ∷ []) (t ++ b ∷ [])
    (all_agree (s ++ b ∷ []) (t ++ b ∷ []) (heads_of_patterns ps) (patterns_next s t b ps (agree_all s t (heads_of_patterns ps) (heads_from_places ps s t same))))

pub decide_matching : (ps : List Pattern) → DecideMatching ps
decide_matching ps s t same n p at = (
  λ m. of ((same n (Gap (length p.items.items))).0 (p, p.items.items, at, (omega arith, sym (take_all (length p.items.items) p.items.items (omega arith))), m)),
  λ m. of ((same n (Gap (length p.items.items))).1 (p, p.items.items, at, (omega arith, sym (take_all (length p.items.items) p.items.items (omega arith))), m)),
)
  where
    of : {u : List ℕ} → IsPlace ps u n (Gap (length p.items.items)) → Matches p.items.items u
    of {u} r =
        let e : r.0 ≡ p = cc (r.2, at) in
        let h : r.1 ≡ p.items.items = r.3.1 ∙ ap (λ (q : Pattern). take (length p.items.items) q.items.items) e ∙ take_all (length p.items.items) p.items.items (omega arith) in
        subst (λ xs. Matches xs u) h r.4
