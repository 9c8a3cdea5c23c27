-- Patterns have one number of states.
use Rattle.std.proofs.Common.{◌≡◌, ◌<◌, ◌≤◌, ◌↔◌, ℕ, List, [], ◌∷◌, length, zero, suc, true, refl, sym, ap, subst, ◌∙◌, ⊎_elim, arith}
use Rattle.std.specs.List.{list_any}
use Rattle.std.proofs.Math.Dec.{eqb}
use Rattle.std.proofs.lemmas.Bool.{cases_Bool, cases_eq}
use Rattle.std.proofs.lemmas.Bool.Decides.{nat_tests}
use Rattle.std.proofs.lemmas.Map.Steps.{le-length_from_below}
use Rattle.aa_pattern.specs.declared.pattern.Pattern.{Pattern}
use Rattle.aa_auto.specs.Tables.{Table, IsAutomaton, IsText, rows_of, place_of}
use Rattle.aa_compile.specs.States.{HasStates}

-- an automaton has as many rows as its patterns have states
pub has_states : {ps : List Pattern} {t : Table} → IsAutomaton ps t → HasStates ps (rows_of t)
has_states {ps} {t} a = record { state = place_of t; within = a.within; same = a.places; reached = a.reached }

-- a list of j numbers, one for each number below j
abbrev Covered : (ℕ → ℕ → Type 0) → ℕ → List ℕ → Type 0
Covered P j xs = (length xs ≡ j) × ((k : ℕ) → k < j → (v : ℕ) × P k v × (list_any (eqb v) xs ≡ true))

found_first : (v : ℕ) (xs : List ℕ) → list_any (eqb v) (v ∷ xs) ≡ true
found_first v xs = let t : eqb v v ≡ true = grind (arith, nat_tests) in rw t refl

found_later : (v w : ℕ) (xs : List ℕ) → list_any (eqb v) xs ≡ true → list_any (eqb v) (w ∷ xs) ≡ true
found_later v w xs h = ⊎_elim (λ t. rw t refl) (λ f. rw f h) (cases_Bool (eqb v w))

covered : (P : ℕ → ℕ → Type 0) (j : ℕ) → ((k : ℕ) → k < j → (v : ℕ) × P k v) → (xs : List ℕ) × Covered P j xs
covered P zero each = ([], (refl, λ k lt. absurd (omega (arith, lt))))
covered P (suc j) each =
    let last = each j (omega arith) in
    let before = covered P j (λ k lt. each k (omega (arith, lt))) in (
      last.0 ∷ before.0,
      (
        ap suc before.1.0,
        λ k lt. ⊎_elim
            (λ e. (last.0, subst (λ i. P i last.0) (sym e) last.1, found_first last.0 before.0))
            (λ ne. let h = before.1.1 k (omega (arith, lt, ne)) in (h.0, h.1, found_later h.0 last.0 before.0 h.2))
            (cases_eq k j),
      ),
    )

module _ (ps : List Pattern) (n m : ℕ) (a : HasStates ps n) (b : HasStates ps m) where
  -- some text leads to both states
  abbrev Both : ℕ → ℕ → Type 0
  Both k v = (s : List ℕ) × IsText s × (b.state s ≡ k) × (a.state s ≡ v)

  met : (xs : List ℕ) → Covered Both m xs → (q : ℕ) → q < n → list_any (eqb q) xs ≡ true
  met xs c q lt =
      let r = a.reached q lt in
      let h = c.1 (b.state r.0) (b.within r.0 r.1) in
      let both = h.1 in
      let same = (b.same r.0 both.0 r.1 both.1).0 (sym both.2) in
      let e : h.0 ≡ q = sym both.3 ∙ sym ((a.same r.0 both.0 r.1 both.1).1 same) ∙ r.2 in
      subst (λ v. list_any (eqb v) xs ≡ true) e h.2

  no_more : n ≤ m
  no_more =
      let c = covered Both m (λ k lt. let r = b.reached k lt in (a.state r.0, (r.0, r.1, r.2, refl))) in
      subst (λ l. n ≤ l) c.1.0 (le-length_from_below c.0 n (met c.0 c.1))

-- no other number fits
pub one_number : (ps : List Pattern) (n m : ℕ) → HasStates ps n → HasStates ps m → n ≡ m
one_number ps n m a b = omega (arith, no_more ps n m a b, no_more ps m n b a)

-- so n is the number of its rows
pub counted : {ps : List Pattern} {t : Table} → IsAutomaton ps t → (n : ℕ) → HasStates ps n ↔ (n ≡ rows_of t)
counted {ps} {t} a n = (λ h. one_number ps n (rows_of t) h (has_states a), λ e. subst (HasStates ps) (sym e) (has_states a))
