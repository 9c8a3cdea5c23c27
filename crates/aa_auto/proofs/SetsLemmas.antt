-- Lists of numbers as keys.
use Rattle.std.proofs.Common.{◌++◌, cond, false, ◌≡◌, ℕ, ◌<◌, ◌≤◌, true, List, [], ◌∷◌, length, get_or, map, suc, zero, slice_get}
use Rattle.std.proofs.Common.{Option, Some, None, Vec, Global, refl, sym, ap, ◌∙◌, ⊎_elim, arith, true≢false, nat_eq}
use Rattle.std.specs.List.{IsDistinct, position, list_any}
use Rattle.std.proofs.lemmas.List.{get_or_push, length_push, map-append}
use Rattle.std.proofs.lemmas.List.Quantifiers.{position-Some}
use Rattle.std.proofs.lemmas.Option.{slice_get-get_or}
use Rattle.std.specs.Cmp.Lexicographic.{pointwise, same_text}
use Rattle.std.proofs.lemmas.Bool.{cases_lt, eq-eqb}
use Rattle.std.proofs.lemmas.Map.Keys.{apart_from_distinct}
use Rattle.aa_auto.specs.Apart.{IsApart}

abbrev Numbers : Type 0
Numbers = Vec ℕ Global

pub same_numbers : (x y : List ℕ) → pointwise nat_eq x y ≡ true → x ≡ y
same_numbers x y e = same_text x y (sym e)

pub numbers_same : (x : List ℕ) → pointwise nat_eq x x ≡ true
numbers_same [] = refl
numbers_same (a ∷ x) = rw (eq-eqb a a refl) (numbers_same x)

slice_get-map : (vs : List Numbers) (i : ℕ) (v : Numbers) → slice_get vs i ≡ Some v → slice_get (map (λ (v : Numbers). v.items) vs) i ≡ Some v.items
slice_get-map [] i v e = absurd (cc e)
slice_get-map (w ∷ vs) zero v e = ap (λ (o : Option Numbers). elim o as (λ _. Option (List ℕ)) [ Some u ↦ Some u.items | None ↦ None ]) e
slice_get-map (w ∷ vs) (suc i) v e = slice_get-map vs i v e

pub found_at : (vs : List Numbers) (i : ℕ) (x : List ℕ) → (v : Numbers) × (slice_get vs i ≡ Some v) × (pointwise nat_eq x v.items ≡ true) →
    slice_get (map (λ (v : Numbers). v.items) vs) i ≡ Some x
found_at vs i x p = slice_get-map vs i p.0 p.1 ∙ ap Some (sym (same_numbers x p.0.items p.2))

get_or-map : (vs : List Numbers) (i : ℕ) (d : Numbers) → i < length vs → get_or (map (λ (v : Numbers). v.items) vs) i [] ≡ (get_or vs i d).items
get_or-map [] i d lt = absurd (omega arith)
get_or-map (v ∷ vs) zero d lt = refl
get_or-map (v ∷ vs) (suc i) d lt = get_or-map vs i d (omega arith)

pub length_map : (vs : List Numbers) → length (map (λ (v : Numbers). v.items) vs) ≡ length vs
length_map [] = refl
length_map (v ∷ vs) = ap suc (length_map vs)

apart_by : (vs : List Numbers) (d : Numbers) → IsDistinct (λ (x y : Numbers). pointwise nat_eq x.items y.items) vs → IsApart (map (λ (v : Numbers). v.items) vs)
apart_by vs d distinct i j li lj e =
    let li' : i < length vs = omega (arith, length_map vs) in
    let lj' : j < length vs = omega (arith, length_map vs) in
    let same : (get_or vs i d).items ≡ (get_or vs j d).items = sym (get_or-map vs i d li') ∙ e ∙ get_or-map vs j d lj' in
    ⊎_elim
    (λ (lt : i < j). absurd (clash i j lt lj' same))
    (λ (le : j ≤ i). ⊎_elim (λ (lt : j < i). absurd (clash j i lt li' (sym same))) (λ (ge : i ≤ j). omega arith) (cases_lt j i))
    (cases_lt i j)
  where
    clash : (a b : ℕ) → a < b → b < length vs → (get_or vs a d).items ≡ (get_or vs b d).items → ⊥
    clash a b lt lb e = true≢false
        (sym (numbers_same (get_or vs a d).items) ∙ ap (λ z. pointwise nat_eq (get_or vs a d).items z) e
        ∙ apart_from_distinct (λ (x y : Numbers). pointwise nat_eq x.items y.items) vs a b d distinct lt lb)

pub apart_sets : (vs : List Numbers) → IsDistinct (λ (x y : Numbers). pointwise nat_eq x.items y.items) vs → IsApart (map (λ (v : Numbers). v.items) vs)
apart_sets [] distinct = λ i j li lj e. absurd (omega arith)
apart_sets (w ∷ vs) distinct = apart_by (w ∷ vs) w distinct

-- what was looked up stands where it was found
pub found_by : (vs : List Numbers) (i : ℕ) (x : List ℕ) → position (λ (v : Numbers). pointwise nat_eq x v.items) vs ≡ Some i → slice_get (map (λ (v : Numbers). v.items) vs) i ≡ Some x
found_by [] i x e = absurd (cc e)
found_by (w ∷ vs) i x e =
    let at = position-Some (λ (v : Numbers). pointwise nat_eq x v.items) (w ∷ vs) i w e in
    found_at (w ∷ vs) i x (get_or (w ∷ vs) i w, slice_get-get_or (w ∷ vs) i w at.0, at.1)

-- what wasn't found is added last
pub added_last : (vs new : List Numbers) (x : List ℕ) (v : Numbers) → v.items ≡ x → false ≡ list_any (λ (k : Numbers). pointwise nat_eq x k.items) vs →
    new ≡ cond (list_any (λ (k : Numbers). pointwise nat_eq v.items k.items) vs) vs (vs ++ v ∷ []) → map (λ (v : Numbers). v.items) new ≡ map (λ (v : Numbers). v.items) vs ++ x ∷ []
added_last vs new x v same none is =
    let fresh : list_any (λ (k : Numbers). pointwise nat_eq v.items k.items) vs ≡ false =
    ap (λ z. list_any (λ (k : Numbers). pointwise nat_eq z k.items) vs) same ∙ sym none in
    ap (map (λ (v : Numbers). v.items)) (is ∙ ap (λ b. cond b vs (vs ++ v ∷ [])) fresh) ∙ map-append (λ (v : Numbers). v.items) vs (v ∷ []) ∙ ap (λ z. map (λ (v : Numbers). v.items) vs ++ z ∷ []) same

-- and stands there
pub found_last : (sets all : List (List ℕ)) (x : List ℕ) (n : ℕ) → all ≡ sets ++ x ∷ [] → n ≡ length sets → slice_get all n ≡ Some x
found_last sets all x n e is =
    ap (λ z. slice_get z n) e
    ∙ slice_get-get_or (sets ++ x ∷ []) n [] (omega (arith, is, length_push sets x))
    ∙ ap Some (get_or_push sets x [] n (sym is))
