-- A run that goes on byte by byte, up to where a test ends it, ends at the first place that ends.
use Rattle.std.proofs.Common.{◌≡◌, ℕ, zero, suc, ◌<◌, Bool, true, false, cond, List, [], ◌∷◌, ◌++◌, take, drop, reverse, refl, arith}
use Rattle.std.proofs.lemmas.List.{reverse-append, append-nil, append_assoc}
use Rattle.aa_language_laws.specs.Places.{IsFirst, EndsFirst}

-- the byte behind a place stands first among those before the next
pub reverse_onto : (b : ℕ) (bs back : List ℕ) → reverse (b ∷ bs) ++ back ≡ reverse bs ++ (b ∷ back)
reverse_onto b bs back = rw (reverse-append (b ∷ []) bs, append_assoc)

-- where steps lead from a start, behind these bytes, the nearest first
unfoldable pub behind : {S : Type 0} → S → (S → ℕ → S) → List ℕ → S
behind start next [] = start
behind start next (b ∷ back) = next (behind start next back) b

pub EndsBehind : (List ℕ → List ℕ → Type 0) → List ℕ → List ℕ → ℕ → Type 0
EndsBehind Ends back text at = IsFirst (λ n. Ends (reverse (take n text) ++ back) (drop n text)) at

module _ (F : List ℕ → List ℕ → ℕ) (E : List ℕ → ℕ → List ℕ → Bool) (Ends : List ℕ → List ℕ → Type 0)
    (nil : (back : List ℕ) → F back [] ≡ 0)
    (step : (back : List ℕ) (b : ℕ) (bs : List ℕ) → F back (b ∷ bs) ≡ cond (E back b bs) 0 (suc (F (b ∷ back) bs)))
    (at_end : (back : List ℕ) → Ends back [])
    (yes : (back : List ℕ) (b : ℕ) (bs : List ℕ) → E back b bs ≡ true → Ends back (b ∷ bs))
    (no : (back : List ℕ) (b : ℕ) (bs : List ℕ) → E back b bs ≡ false → Ends back (b ∷ bs) → ⊥) where
  later : (back : List ℕ) (b : ℕ) (bs : List ℕ) → E back b bs ≡ false → EndsBehind Ends (b ∷ back) bs (F (b ∷ back) bs) → EndsBehind Ends back (b ∷ bs) (suc (F (b ∷ back) bs))
  unfolding EndsBehind
  later back b bs e h = record {
    here = rw reverse_onto h.here;
    none_before = λ n. elim n as (λ m. m < suc (F (b ∷ back) bs) → Ends (reverse (take m (b ∷ bs)) ++ back) (drop m (b ∷ bs)) → ⊥) [
      | zero ↦ λ lt ends. no back b bs e ends
      | suc m ↦ λ lt ends. h.none_before m (omega arith) (rw reverse_onto at ends)
    ];
  }

  one_more : (back : List ℕ) (b : ℕ) (bs : List ℕ) (v : Bool) → E back b bs ≡ v → EndsBehind Ends (b ∷ back) bs (F (b ∷ back) bs) → EndsBehind Ends back (b ∷ bs) (cond v 0 (suc (F (b ∷ back) bs)))
  unfolding EndsBehind
  one_more back b bs true e h = record { here = yes back b bs e; none_before = λ n lt. absurd (omega arith) }
  one_more back b bs false e h = later back b bs e h

  pub first_behind : (back text : List ℕ) → EndsBehind Ends back text (F back text)
  unfolding EndsBehind
  first_behind back [] = rw nil (record { here = at_end back; none_before = λ n lt. absurd (omega arith) })
  first_behind back (b ∷ bs) = rw (step back b bs) (one_more back b bs (E back b bs) refl (first_behind (b ∷ back) bs))

  pub first : (text : List ℕ) → EndsFirst Ends text (F [] text)
  unfolding EndsBehind
  first text = simp append-nil at (first_behind [] text)
