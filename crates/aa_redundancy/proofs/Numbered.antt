-- Elements beside their numbers, and those that aren't gone.
use Rattle.std.proofs.Common.{◌≡◌, ℕ, suc, List, [], ◌∷◌, map, Bool, true, false, not, cond, refl, ap, ◌∙◌, subst, Contains}
use Rattle.std.specs.Prelude.{◌&&◌}
use Rattle.std.specs.List.{filter}
use Rattle.aa_compile.proofs.ConflictLemmas.{in_head, in_tail, in_cases}
use Rattle.std.proofs.Common.{⊎_elim}
use Rattle.aa_redundancy.specs.Without.{without_from}

-- each element beside its number, from k on
abbrev pub numbered_from : {X : Type 0} → ℕ → List X → List (ℕ × X)
numbered_from k [] = []
numbered_from k (x ∷ xs) = (k, x) ∷ numbered_from (suc k) xs

-- the element
abbrev pub element : {X : Type 0} → ℕ × X → X
element h = h.1

module _ {X : Type 0} (gone : ℕ → Bool) (q : X → Bool) where
  -- it isn't gone, and passes
  abbrev pub stays : ℕ × X → Bool
  stays h = not (gone h.0) && q h.1

  filter_cond : (g : Bool) (x : X) (rest : List X) → filter q (cond g rest (x ∷ rest)) ≡ cond g (filter q rest) (cond (q x) (x ∷ filter q rest) (filter q rest))
  filter_cond true x rest = refl
  filter_cond false x rest = refl

  both_cases : (g t : Bool) (k : ℕ) (x : X) (hs : List (ℕ × X))
      → cond g (map element hs) (cond t (x ∷ map element hs) (map element hs)) ≡ map element (cond (not g && t) ((k, x) ∷ hs) hs)
  both_cases true true k x hs = refl
  both_cases true false k x hs = refl
  both_cases false true k x hs = refl
  both_cases false false k x hs = refl

  -- those left that pass are those beside their numbers that stay
  pub left_passing : (k : ℕ) (xs : List X) → filter q (without_from gone k xs) ≡ map element (filter stays (numbered_from k xs))
  left_passing k [] = refl
  left_passing k (x ∷ xs) =
      filter_cond (gone k) x (without_from gone (suc k) xs)
      ∙ ap (λ (l : List X). cond (gone k) l (cond (q x) (x ∷ l) l)) (left_passing (suc k) xs)
      ∙ both_cases (gone k) (q x) k x (filter stays (numbered_from (suc k) xs))

-- nothing is gone
pub without_none : {X : Type 0} (gone : ℕ → Bool) → ((n : ℕ) → gone n ≡ false) → (k : ℕ) (xs : List X) → without_from gone k xs ≡ xs
without_none gone none k [] = refl
without_none {X} gone none k (x ∷ xs) =
    ap (λ (g : Bool). cond g (without_from gone (suc k) xs) (x ∷ without_from gone (suc k) xs)) (none k)
    ∙ ap (λ (l : List X). x ∷ l) (without_none gone none (suc k) xs)

-- what is left was there
pub left_in : {X : Type 0} (gone : ℕ → Bool) (k : ℕ) (xs : List X) (x : X) → Contains (without_from gone k xs) x → Contains xs x
left_in gone k [] x c = c
left_in {X} gone k (y ∷ ys) x c = at (gone k) (left_in gone (suc k) ys x) c
  where
    at : (g : Bool) → (Contains (without_from gone (suc k) ys) x → Contains ys x) → Contains (cond g (without_from gone (suc k) ys) (y ∷ without_from gone (suc k) ys)) x → Contains (y ∷ ys) x
    at true so d = in_tail y x ys (so d)
    at false so d =
        ⊎_elim (λ (e : y ≡ x). let P : X → Type 0 = λ z. Contains (y ∷ ys) z in subst P e (in_head y ys))
        (λ (d' : Contains (without_from gone (suc k) ys) x). in_tail y x ys (so d'))
        (in_cases y x (without_from gone (suc k) ys) d)
