-- One keyword more.
use Rattle.std.proofs.Common.{◌≡◌, ℕ, List, [], ◌∷◌, ◌++◌, Bool, true, false, cond, refl, sym, ap, ◌∙◌, ⊎_elim, append-nil}
use Rattle.std.specs.Prelude.{filter, not, ◌||◌}
use Rattle.std.specs.List.{list_any}
use Rattle.std.specs.Str.{bytes_eq}
use Rattle.std.proofs.lemmas.Bool.{cases_Bool}
use Rattle.std.proofs.lemmas.List.Elements.{filter-append}
use Rattle.std.proofs.lemmas.Slice.Eq.{bytes_eq-Decides}
use Rattle.aa_check.specs.Counts.{distinct}

abbrev other : List ℕ → List ℕ → Bool
other k j = not (bytes_eq k j)

abbrev pub is_among : List ℕ → List (List ℕ) → Bool
is_among k ks = list_any (λ j. bytes_eq j k) ks

-- what a filter leaves out isn't k
kept : (j k : List ℕ) → bytes_eq j k ≡ false → (ks : List (List ℕ)) → is_among k (filter (other j) ks) ≡ is_among k ks
kept j k e [] = refl
kept j k e (x ∷ xs) = ⊎_elim
    (λ (same : bytes_eq j x ≡ true).
    let is : j ≡ x = (bytes_eq-Decides j x).0 same in
    let no : bytes_eq x k ≡ false = ap (λ y. bytes_eq y k) (sym is) ∙ e in
    rw (same, no) (kept j k e xs))
    (λ (apart : bytes_eq j x ≡ false). rw apart (ap (λ b. bytes_eq x k || b) (kept j k e xs)))
    (cases_Bool (bytes_eq j x))

-- k stands behind the others, unless it is among them
abbrev with_one : List ℕ → List (List ℕ) → List (List ℕ)
with_one k ks = cond (is_among k ks) ks (ks ++ k ∷ [])

filtered : (j k : List ℕ) (ks : List (List ℕ)) → j ∷ filter (other j) (with_one k ks) ≡ with_one k (j ∷ filter (other j) ks)
filtered j k ks = ⊎_elim
    (λ (same : bytes_eq j k ≡ true). ⊎_elim
    (λ (among : is_among k ks ≡ true). rw (same, among) refl)
    (λ (new : is_among k ks ≡ false). rw (same, new) (ap (λ xs. j ∷ xs) (filter-append (other j) ks (k ∷ []) ∙ rw same (append-nil (filter (other j) ks)))))
    (cases_Bool (is_among k ks)))
    (λ (apart : bytes_eq j k ≡ false). ⊎_elim
    (λ (among : is_among k ks ≡ true). rw (apart, kept j k apart ks, among) refl)
    (λ (new : is_among k ks ≡ false). rw (apart, kept j k apart ks, new) (ap (λ xs. j ∷ xs) (filter-append (other j) ks (k ∷ []) ∙ rw apart refl)))
    (cases_Bool (is_among k ks)))
    (cases_Bool (bytes_eq j k))

pub distinct_push : (ks : List (List ℕ)) (k : List ℕ) → distinct (ks ++ k ∷ []) ≡ cond (is_among k (distinct ks)) (distinct ks) (distinct ks ++ k ∷ [])
distinct_push [] k = refl
distinct_push (j ∷ ks) k = ap (λ xs. j ∷ filter (other j) xs) (distinct_push ks k) ∙ filtered j k (distinct ks)
