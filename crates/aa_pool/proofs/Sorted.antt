-- Elements that each stand where their number says, and the same elements sorted by that number.
use Rattle.std.proofs.Common.{◌≡◌, ℕ, zero, suc, ◌+◌, ◌<◌, ◌≤◌, List, [], ◌∷◌, All, map, length, get_or, sym, ap, ◌∙◌, arith}
use Rattle.std.specs.List.{Contains}
use Rattle.std.specs.List.Sorted.{IsPermutation, IsNonDecreasingBy}
use Rattle.std.proofs.lemmas.List.{get_or_default, get_or-map, length-map, same_lists}
use Rattle.std.proofs.lemmas.List.Elements.{Contains-get_or}
use Rattle.std.proofs.lemmas.List.Sorted.{Contains-permutation, All-permutation, length_permutation}
use mathlib.Core.Logic.{dite}
use native.Mathlib.Decide.{ℕ_discrete, dec_le}
use Rattle.std.proofs.Math.Nat.{lt_of_not-le}

module _ {X : Type 0} (key : X → ℕ) where
  -- element i has the number i
  abbrev pub ArePlaced : List X → Type 0
  ArePlaced xs = (i : ℕ) (d : X) → i < length xs → key (get_or xs i d) ≡ i

  -- an element that has the number i
  record Found (ys : List X) (i : ℕ) : Type 0 where
    at : ℕ
    below : at < length ys
    is : (d : X) → key (get_or ys at d) ≡ i

  found : (xs ys : List X) → ArePlaced xs → IsPermutation xs ys → (i : ℕ) (d : X) → i < length xs → Found ys i
  found xs ys placed moved i d below =
      let x : X = get_or xs i d in
      let h : Contains ys x = Contains-permutation xs ys x moved (Contains-get_or xs i d below) in
      record { at = h.0; below = h.1; is = λ e. ap key (get_or_default ys h.0 e x h.1 ∙ h.2) ∙ placed i d below }

  -- an element's number is at most its place
  no_later : (xs ys : List X) → ArePlaced xs → IsPermutation xs ys → IsNonDecreasingBy key ys → (i j : ℕ) (d : X) → j ≤ i → j < length xs → length ys ≡ length xs → key (get_or ys j d) ≤ j
  no_later xs ys placed moved up zero j d le below len =
      let f : Found ys 0 = found xs ys placed moved 0 d (omega arith) in
      let z : j ≡ 0 = omega arith in
      let u : key (get_or ys 0 d) ≤ key (get_or ys f.at d) = up 0 f.at d (omega arith) f.below in
      let is : key (get_or ys f.at d) ≡ 0 = f.is d in
      rw z (omega arith)
  no_later xs ys placed moved up (suc i) j d le below len =
      dite (ℕ_discrete j (suc i))
      (λ e.
      let f : Found ys j = found xs ys placed moved j d below in
      let is : key (get_or ys f.at d) ≡ j = f.is d in
      dite (dec_le j f.at)
      (λ le. let u : key (get_or ys j d) ≤ key (get_or ys f.at d) = up j f.at d le f.below in omega arith)
      (λ not. let lt : f.at < j = lt_of_not-le not in let v : key (get_or ys f.at d) ≤ f.at = no_later xs ys placed moved up i f.at d (omega arith) (omega (arith, f.below)) len in absurd (omega arith)))
      (λ ne. no_later xs ys placed moved up i j d (omega arith) below len)

  -- and no less
  in_place : (xs ys : List X) → ArePlaced xs → IsPermutation xs ys → IsNonDecreasingBy key ys → (m j : ℕ) (d : X) → length xs ≤ j + m → j < length xs → length ys ≡ length xs → key (get_or ys j d) ≡ j
  in_place xs ys placed moved up zero j d near below len = absurd (omega arith)
  in_place xs ys placed moved up (suc m) j d near below len =
      let f : Found ys j = found xs ys placed moved j d below in
      let is : key (get_or ys f.at d) ≡ j = f.is d in
      let le : key (get_or ys f.at d) ≤ f.at = no_later xs ys placed moved up f.at f.at d (omega arith) (omega (arith, f.below)) len in
      dite (ℕ_discrete f.at j)
      (λ e. ap (λ n. key (get_or ys n d)) (sym e) ∙ is)
      (λ ne. let h : key (get_or ys f.at d) ≡ f.at = in_place xs ys placed moved up m f.at d (omega arith) (omega (arith, f.below)) len in absurd (omega arith))

  -- so the sorted elements are those
  pub sorted_is : (xs ys : List X) → ArePlaced xs → IsPermutation xs ys → IsNonDecreasingBy key ys → ys ≡ xs
  sorted_is xs ys placed moved up =
      let len : length ys ≡ length xs = length_permutation xs ys moved in
      let whole : All (λ y. (d : X) → (key y < length xs) × (y ≡ get_or xs (key y) d)) xs = λ k e below d.
      let p : key (get_or xs k e) ≡ k = placed k e below in (rw p below, rw p (get_or_default xs k e d below)) in
      let there : All (λ y. (d : X) → (key y < length xs) × (y ≡ get_or xs (key y) d)) ys = All-permutation (λ y. (d : X) → (key y < length xs) × (y ≡ get_or xs (key y) d)) xs ys moved whole in
      same_lists ys xs len (λ k d below.
      let at : key (get_or ys k d) ≡ k = in_place xs ys placed moved up (length xs) k d (omega arith) (omega (arith, len)) len in
      (there k d below d).1 ∙ ap (λ n. get_or xs n d) at)

module _ {L X : Type 0} (key : X → ℕ) (f : L → X) where
  pub placed_map : (ls : List L) → ((i : ℕ) (d : L) → i < length ls → key (f (get_or ls i d)) ≡ i) → ArePlaced key (map f ls)
  placed_map [] h i d below = absurd (omega (arith, below))
  placed_map (l ∷ ls) h i d below =
      let n : i < length (l ∷ ls) = omega (arith, below, length-map (l ∷ ls) f) in
      ap key (get_or-map f (l ∷ ls) i l d n) ∙ h i l n

  pub rises_map : (ls : List L) → IsNonDecreasingBy (λ l. key (f l)) ls → IsNonDecreasingBy key (map f ls)
  rises_map [] h i j d le below = absurd (omega (arith, below))
  rises_map (l ∷ ls) h i j d le below =
      let n : j < length (l ∷ ls) = omega (arith, below, length-map (l ∷ ls) f) in
      let a : get_or (map f (l ∷ ls)) i d ≡ f (get_or (l ∷ ls) i l) = get_or-map f (l ∷ ls) i l d (omega arith) in
      let b : get_or (map f (l ∷ ls)) j d ≡ f (get_or (l ∷ ls) j l) = get_or-map f (l ∷ ls) j l d n in
      rw (a, b) (h i j l le n)
