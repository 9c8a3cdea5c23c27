-- The heads of the positions are those that the flags are of.
use Rattle.std.proofs.Common.{◌≡◌, ℕ, ◌≤◌, ◌↔◌, ◌⊎◌, List, [], ◌∷◌, ◌++◌, length, take, suc, zero, slice_get, Some, refl, sym, ap, ◌∙◌, subst, inl, inr, ⊎_elim, arith, append_assoc, zero-le}
use Rattle.std.proofs.lemmas.List.{append-nil}
use Rattle.aa_pattern.specs.declared.item.Item.{Item, Choice', Row_of-Item, end_of-Item, more_of-Item, items-the_row-Item, Row_of-Item-Choice-0-1, end_of-Item-Choice-0-1, more_of-Item-Choice-0-1}
use Rattle.aa_pattern.specs.declared.pattern.Pattern.{Pattern}
use Rattle.aa_pattern.specs.Globs.{Matches, sequences, branches_of}
use Rattle.aa_pattern.specs.Places.{Position, Gap, Within, IsHead, IsPlace, SamePlaces}
use Rattle.aa_pattern.specs.Heads.{heads_within, heads_of_branches, heads_along, heads_after, heads_of_patterns}

abbrev pub In : List Item → List (List Item) → Type 0
In g [] = ⊥
In g (x ∷ xs) = (g ≡ x) ⊎ In g xs

In-append : (g : List Item) (xs ys : List (List Item)) → In g (xs ++ ys) ↔ (In g xs ⊎ In g ys)
In-append g [] ys = (λ h. inr h, λ h. ⊎_elim (λ z. absurd z) (λ y. y) h)
In-append g (x ∷ xs) ys = (
  λ h. ⊎_elim (λ e. inl (inl e)) (λ r. ⊎_elim (λ a. inl (inr a)) (λ b. inr b) ((In-append g xs ys).0 r)) h,
  λ h. ⊎_elim (λ (a : (g ≡ x) ⊎ In g xs). ⊎_elim (λ e. inl e) (λ r. inr ((In-append g xs ys).1 (inl r))) a) (λ b. inr ((In-append g xs ys).1 (inr b))) h,
)

-- a position behind one more item
abbrev later : Position → Position
later (Gap i) = Gap (suc i)
later (Within i j q) = Within (suc i) j q

later_head : (item : Item) (items : List Item) (q : Position) (r : List Item) → IsHead items q r → IsHead (item ∷ items) (later q) (item ∷ r)
later_head item items (Gap i) r h = (omega (arith, h.0), ap (λ z. item ∷ z) h.1)
later_head item items (Within i j q) r h = (h.0, h.1, h.2, h.3, h.4, h.5, ap (λ z. item ∷ z) h.6)

abbrev HasPosition : List Item → List Item → List Item → Type 0
HasPosition h items g = (q : Position) × (r : List Item) × IsHead items q r × (g ≡ h ++ r)

abbrev HasWithin : List Item → List (List Item) → List Item → Type 0
HasWithin h branches g = (j : ℕ) × (branch : List Item) × (slice_get branches j ≡ Some branch) × HasPosition h branch g

begun : (h items g : List Item) → g ≡ h → HasPosition h items g
begun h items g e = (Gap 0, [], (zero-le, refl), e ∙ sym (append-nil h))

inside : (h : List Item) (item : Item) (items g : List Item) → HasWithin h (branches_of item) g → HasPosition h (item ∷ items) g
inside h item items g w = (Within 0 w.0 w.3.0, w.3.1, (item, w.1, w.3.1, refl, w.2, w.3.2, refl), w.3.3)

behind : (h : List Item) (item : Item) (items g : List Item) → HasPosition (h ++ item ∷ []) items g → HasPosition h (item ∷ items) g
behind h item items g p = (later p.0, item ∷ p.1, later_head item items p.0 p.1 p.2, p.3 ∙ append_assoc h (item ∷ []) p.1)

mutual
  within_in : (h : List Item) (item : Item) (g : List Item) → In g (heads_within h item) → HasWithin h (branches_of item) g
  within_in h (Choice' _ rows) g i = rows_in h rows g i
  within_in h _ g z = absurd z

  rows_in : {n : _} (h : List Item) (rows : Row_of-Item-Choice-0-1 n) (g : List Item) → In g (heads_of_branches h rows) → HasWithin h (sequences rows) g
  rows_in h end_of-Item-Choice-0-1 g z = absurd z
  rows_in h (more_of-Item-Choice-0-1 _ row rest) g i =
      ⊎_elim
      (λ (a : In g (h ∷ heads_along h row)). (0, items-the_row-Item _ row, refl, ⊎_elim (λ e. begun h (items-the_row-Item _ row) g e) (λ b. row_in h row g b) a))
      (λ (b : In g (heads_of_branches h rest)). let w = rows_in h rest g b in (suc w.0, w.1, w.2, w.3))
      ((In-append g (h ∷ heads_along h row) (heads_of_branches h rest)).0 i)

  row_in : {n : _} (h : List Item) (row : Row_of-Item n) (g : List Item) → In g (heads_along h row) → HasPosition h (items-the_row-Item _ row) g
  row_in h end_of-Item g z = absurd z
  row_in h (more_of-Item item rest) g i =
      ⊎_elim
      (λ (a : In g (heads_within h item)). inside h item (items-the_row-Item _ rest) g (within_in h item g a))
      (λ (b : (g ≡ h ++ item ∷ []) ⊎ In g (heads_along (h ++ item ∷ []) rest)).
      behind h item (items-the_row-Item _ rest) g (⊎_elim (λ e. begun (h ++ item ∷ []) (items-the_row-Item _ rest) g e) (λ c. row_in (h ++ item ∷ []) rest g c) b))
      ((In-append g (heads_within h item) ((h ++ item ∷ []) ∷ heads_along (h ++ item ∷ []) rest)).0 i)

items_in : (h items g : List Item) → In g (h ∷ heads_after h items) → HasPosition h items g
items_in h items g i = ⊎_elim (λ e. begun h items g e) (λ a. after h items a) i
  where
    after : (h items : List Item) → In g (heads_after h items) → HasPosition h items g
    after h [] z = absurd z
    after h (item ∷ items) i =
        ⊎_elim
        (λ (a : In g (heads_within h item)). inside h item items g (within_in h item g a))
        (λ (b : (g ≡ h ++ item ∷ []) ⊎ In g (heads_after (h ++ item ∷ []) items)).
        behind h item items g (⊎_elim (λ e. begun (h ++ item ∷ []) items g e) (λ c. after (h ++ item ∷ []) items c) b))
        ((In-append g (heads_within h item) ((h ++ item ∷ []) ∷ heads_after (h ++ item ∷ []) items)).0 i)

-- and the other way round
pub along : {n : _} (h : List Item) (row : Row_of-Item n) → heads_along h row ≡ heads_after h (items-the_row-Item _ row)
along h end_of-Item = refl
along h (more_of-Item item rest) = ap (λ z. heads_within h item ++ (h ++ item ∷ []) ∷ z) (along (h ++ item ∷ []) rest)

abbrev of_sequences : List Item → List (List Item) → List (List Item)
of_sequences h [] = []
of_sequences h (b ∷ bs) = (h ∷ heads_after h b) ++ of_sequences h bs

in_sequences : {n : _} (h : List Item) (rows : Row_of-Item-Choice-0-1 n) → heads_of_branches h rows ≡ of_sequences h (sequences rows)
in_sequences h end_of-Item-Choice-0-1 = refl
in_sequences h (more_of-Item-Choice-0-1 shape row rest) = cc (along h row, in_sequences h rest)

in_within : (h : List Item) (item : Item) → heads_within h item ≡ of_sequences h (branches_of item)
in_within h (Choice' _ rows) = in_sequences h rows
in_within h _ = refl

in_branch : (h g branch : List Item) (bs : List (List Item)) (j : ℕ) → slice_get bs j ≡ Some branch → In g (h ∷ heads_after h branch) → In g (of_sequences h bs)
in_branch h g branch [] j e i = absurd (cc e)
in_branch h g branch (b ∷ bs) zero e i = grind (arith, In-append)
in_branch h g branch (b ∷ bs) (suc j) e i = (In-append g (h ∷ heads_after h b) (of_sequences h bs)).1 (inr (in_branch h g branch bs j e i))

in_gap : (h items : List Item) (i : ℕ) → i ≤ length items → In (h ++ take i items) (h ∷ heads_after h items)
in_gap h items zero le = inl (append-nil h)
in_gap h [] (suc i) le = absurd (omega arith)
in_gap h (item ∷ items) (suc i) le =
    inr ((In-append (h ++ item ∷ take i items) (heads_within h item) ((h ++ item ∷ []) ∷ heads_after (h ++ item ∷ []) items)).1
    (inr (subst (λ g. In g ((h ++ item ∷ []) ∷ heads_after (h ++ item ∷ []) items)) (append_assoc h (item ∷ []) (take i items))
    (in_gap (h ++ item ∷ []) items i (omega arith)))))

in_item : (h items : List Item) (i : ℕ) (item : Item) (g : List Item) → slice_get items i ≡ Some item → In g (heads_within (h ++ take i items) item) → In g (heads_after h items)
in_item h [] i item g e n = absurd (cc e)
in_item h (x ∷ items) zero item g e n = grind (arith, append-nil, In-append)
in_item h (x ∷ items) (suc i) item g e n =
    (In-append g (heads_within h x) ((h ++ x ∷ []) ∷ heads_after (h ++ x ∷ []) items)).1
    (inr (inr (in_item (h ++ x ∷ []) items i item g e (subst (λ z. In g (heads_within z item)) (sym (append_assoc h (x ∷ []) (take i items))) n))))

in_items : (q : Position) (h items r : List Item) → IsHead items q r → In (h ++ r) (h ∷ heads_after h items)
in_items (Gap i) h items r p = subst (λ z. In (h ++ z) (h ∷ heads_after h items)) (sym p.1) (in_gap h items i p.0)
in_items (Within i j q) h items r p =
    let front = h ++ take i items in
    let deep = in_items q front p.1 p.2 p.5 in
    let there : In (front ++ p.2) (heads_within front p.0) = subst (λ z. In (front ++ p.2) z) (sym (in_within front p.0)) (in_branch front (front ++ p.2) p.1 (branches_of p.0) j p.4 deep) in
    inr (subst (λ z. In z (heads_after h items)) (append_assoc h (take i items) p.2 ∙ ap (λ z. h ++ z) (sym p.6)) (in_item h items i p.0 (front ++ p.2) p.3 there))

abbrev HasPlace : List Pattern → List Item → Type 0
HasPlace ps g = (n : ℕ) × (q : Position) × (p : Pattern) × (slice_get ps n ≡ Some p) × IsHead p.items.items q g

patterns_in : (ps : List Pattern) (g : List Item) → In g (heads_of_patterns ps) → HasPlace ps g
patterns_in [] g z = absurd z
patterns_in (p ∷ ps) g i =
    ⊎_elim
    (λ (a : In g ([] ∷ heads_after [] p.items.items)).
    let w = items_in [] p.items.items g a in (0, w.0, p, refl, subst (IsHead p.items.items w.0) (sym w.3) w.2))
    (λ (b : In g (heads_of_patterns ps)). let w = patterns_in ps g b in (suc w.0, w.1, w.2, w.3, w.4))
    ((In-append g ([] ∷ heads_after [] p.items.items) (heads_of_patterns ps)).0 i)

in_patterns : (ps : List Pattern) (n : ℕ) (q : Position) (p : Pattern) (g : List Item) → slice_get ps n ≡ Some p → IsHead p.items.items q g → In g (heads_of_patterns ps)
in_patterns [] n q p g e h = absurd (cc e)
in_patterns (x ∷ ps) zero q p g e h =
    let same : p ≡ x = cc e in
    (In-append g ([] ∷ heads_after [] x.items.items) (heads_of_patterns ps)).1 (inl (in_items q [] x.items.items g (subst (λ (z : Pattern). IsHead z.items.items q g) same h)))
in_patterns (x ∷ ps) (suc n) q p g e h = (In-append g ([] ∷ heads_after [] x.items.items) (heads_of_patterns ps)).1 (inr (in_patterns ps n q p g e h))

-- the texts stand at the same places where they match the same heads
abbrev pub SameHeads : List (List Item) → List ℕ → List ℕ → Type 0
SameHeads hs s t = (g : List Item) → In g hs → Matches g s ↔ Matches g t

pub heads_from_places : (ps : List Pattern) (s t : List ℕ) → SamePlaces ps s t → SameHeads (heads_of_patterns ps) s t
heads_from_places ps s t same g i =
    let w = patterns_in ps g i in (
      λ m. let r = (same w.0 w.1).0 (w.2, g, w.3, w.4, m) in one_head w r,
      λ m. let r = (same w.0 w.1).1 (w.2, g, w.3, w.4, m) in one_head w r,
    )
  where
    unique : (items : List Item) (q : Position) (a b : List Item) → IsHead items q a → IsHead items q b → a ≡ b
    unique items (Gap i) a b x y = x.1 ∙ sym y.1
    unique items (Within i j q) a b x y =
        let item : x.0 ≡ y.0 = cc (x.3, y.3) in
        let branch : x.1 ≡ y.1 = cc (subst (λ z. slice_get (branches_of z) j ≡ Some x.1) item x.4, y.4) in
        x.6 ∙ ap (λ z. take i items ++ z) (unique y.1 q x.2 y.2 (subst (λ z. IsHead z q x.2) branch x.5) y.5) ∙ sym y.6

    one_head : {u : List ℕ} (w : HasPlace ps g) → IsPlace ps u w.0 w.1 → Matches g u
    one_head {u} w r =
        let p : r.0 ≡ w.2 = cc (r.2, w.3) in
        subst (λ z. Matches z u) (unique w.2.items.items w.1 r.1 g (subst (λ (z : Pattern). IsHead z.items.items w.1 r.1) p r.3) w.4) r.4

pub places_from_heads : (ps : List Pattern) (s t : List ℕ) → SameHeads (heads_of_patterns ps) s t → SamePlaces ps s t
places_from_heads ps s t same n q = (
  λ (p : IsPlace ps s n q). (p.0, p.1, p.2, p.3, (same p.1 (in_patterns ps n q p.0 p.1 p.2 p.3)).0 p.4),
  λ (p : IsPlace ps t n q). (p.0, p.1, p.2, p.3, (same p.1 (in_patterns ps n q p.0 p.1 p.2 p.3)).1 p.4),
)
