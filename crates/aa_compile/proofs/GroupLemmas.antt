-- One more profile.
use Rattle.std.proofs.Common.{◌≡◌, ℕ, ◌+◌, ◌<◌, List, [], ◌∷◌, ◌++◌, get_or, length, take, Bool, true, false, true≢false, cond, eqb, suc, Option, Some, None, refl, ap, sym, ◌∙◌, arith, ⊎_elim}
use Rattle.std.proofs.lemmas.List.{append-nil, take_more, length-take-le, get_or-set_same, get_or-set_other, length-set}
use Rattle.std.proofs.lemmas.Bool.{cases_Bool, eq-eqb, eqb-true}
use Rattle.std.specs.Bool.{nat_eq}
use Rattle.std.specs.Option.{option_eq}
use Rattle.aa_model.specs.declared.policy.Profile.{Profile}
use Rattle.aa_model.specs.Lawful.{has_parent}
use Rattle.aa_compile.specs.Attached.{numbers_below}
use Rattle.aa_compile.specs.Groups.{is_below}

below_push : (parent : Option ℕ) (k : ℕ) (xs : List Profile) (p : Profile) → numbers_below parent k (xs ++ p ∷ []) ≡ numbers_below parent k xs ++ cond (has_parent parent p) ((k + length xs) ∷ []) []
below_push parent k [] p = at (has_parent parent p)
  where
    at : (b : Bool) → cond b (k ∷ []) [] ≡ cond b ((k + 0) ∷ []) []
    at true = let e : k ≡ k + 0 = omega arith in ap (λ n. n ∷ []) e
    at false = refl
below_push parent k (x ∷ xs) p = at (has_parent parent x) (below_push parent (suc k) xs p ∙ ap (λ n. numbers_below parent (suc k) xs ++ cond (has_parent parent p) (n ∷ []) []) same)
  where
    same : suc k + length xs ≡ k + length (x ∷ xs)
    same = omega arith

    at : (b : Bool) → numbers_below parent (suc k) (xs ++ p ∷ []) ≡ numbers_below parent (suc k) xs ++ cond (has_parent parent p) ((k + length (x ∷ xs)) ∷ []) []
        → cond b (k ∷ numbers_below parent (suc k) (xs ++ p ∷ [])) (numbers_below parent (suc k) (xs ++ p ∷ [])) ≡ cond b
        (k ∷ numbers_below parent (suc k) xs) (numbers_below parent (suc k) xs) ++ cond (has_parent parent p) ((k + length (x ∷ xs)) ∷ []) []
    at true e = ap (λ l. k ∷ l) e
    at false e = e

abbrev has_number : Option ℕ → ℕ → Bool
has_number o n = option_eq nat_eq o (Some n)

-- the group of n after one more number
below_at : (parent : Option ℕ) (number : ℕ) (groups : List (List ℕ)) (n : ℕ) → n < length groups → get_or (is_below parent number groups) n [] ≡ get_or groups n [] ++ cond (has_number parent n) (number ∷ []) []
below_at None number groups n lt = sym (append-nil (get_or groups n []))
below_at (Some m) number groups n lt =
    ⊎_elim
    (λ (e : eqb m n ≡ true).
    let same : m ≡ n = eqb-true m n e in
    ap (λ k. get_or (is_below (Some k) number groups) n []) same
    ∙ get_or-set_same groups n (get_or groups n [] ++ number ∷ []) [] lt
    ∙ ap (λ b. get_or groups n [] ++ cond b (number ∷ []) []) (sym e))
    (λ (e : eqb m n ≡ false).
    get_or-set_other groups m n (get_or groups m [] ++ number ∷ []) [] (λ same. true≢false (sym (eq-eqb m n (sym same)) ∙ e))
    ∙ sym (append-nil (get_or groups n []))
    ∙ ap (λ b. get_or groups n [] ++ cond b (number ∷ []) []) (sym e))
    (cases_Bool (eqb m n))

pub groups_more : (profiles : List Profile) (i : ℕ) (p : Profile) (groups next : List (List ℕ)) → i < length profiles → p ≡ get_or profiles i p → next ≡ is_below p.parent i groups
    → ((n : ℕ) → n < length groups → get_or groups n [] ≡ numbers_below (Some n) 0 (take i profiles)) → (n : ℕ) → n < length groups → get_or next n [] ≡ numbers_below (Some n) 0 (take (i + 1) profiles)
groups_more profiles i p groups next lt is e so_far n within =
    let long : length (take i profiles) ≡ i = length-take-le i profiles (omega arith) in
    let at : 0 + length (take i profiles) ≡ i = omega (arith, long) in
    ap (λ g. get_or g n []) e
    ∙ below_at p.parent i groups n within
    ∙ ap (λ l. l ++ cond (has_parent (Some n) p) (i ∷ []) []) (so_far n within)
    ∙ ap (λ k. numbers_below (Some n) 0 (take i profiles) ++ cond (has_parent (Some n) p) (k ∷ []) []) (sym at)
    ∙ sym (ap (numbers_below (Some n) 0) (take_more profiles i p lt ∙ ap (λ x. take i profiles ++ x ∷ []) (sym is)) ∙ below_push (Some n) 0 (take i profiles) p)

pub below_long : (parent : Option ℕ) (number : ℕ) (groups : List (List ℕ)) → length (is_below parent number groups) ≡ length groups
below_long None number groups = refl
below_long (Some m) number groups = length-set groups m (get_or groups m [] ++ number ∷ [])
