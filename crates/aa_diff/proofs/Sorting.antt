-- What a stable sort makes of a list is the list in the order of its test, and no other.
use Rattle.std.proofs.Common.{◌≡◌, ℕ, suc, ◌+◌, Bool, true, false, not, ◌&&◌, cond, List, [], ◌∷◌, length, get_or, drop, filter, map}
use Rattle.std.proofs.Common.{Ordering, is_lt, IsSortedBy, refl, sym, ap, subst, ◌∙◌, true≢false, arith}
use Rattle.std.specs.Cmp.{IsStrictWeakOrder, IsTotalOrder, first_so, second_so}
use Rattle.std.specs.Fn.{Called, ComparesAs}
use Rattle.std.specs.List.Sorted.{ties, IsStableBy}
use Rattle.std.proofs.lemmas.Fn.{always_returns_same}
use Rattle.std.proofs.lemmas.List.Sorted.{ranks_by}
use denote.Param.Members.{Mut}
use denote.Ref.{Bor}
use Rattle.aa_diff.specs.Sorted.{put_in, sorted_by}

not_true : (b : Bool) → not b ≡ true → b ≡ false
not_true true h = sym h
not_true false h = refl

nil_is_no_cons : {X G : Type 0} (x : X) (xs : List X) → [] ≡ x ∷ xs → G
nil_is_no_cons x xs e = let none : 0 ≡ length (x ∷ xs) = ap length e in absurd (omega arith)

module _ {X : Type 0} (before : X → X → Bool) (o : IsStrictWeakOrder before) where
  -- none of the list comes before the item
  abbrev Above : X → List X → Type 0
  Above x [] = Unit {0}
  Above x (y ∷ ys) = (before y x ≡ false) × Above x ys

  -- nothing comes before what stands before it
  abbrev Rises : List X → Type 0
  Rises [] = Unit {0}
  Rises (x ∷ xs) = Above x xs × Rises xs

  abbrev with_ties : X → List X → List X
  with_ties x xs = filter (ties before x) xs

  above_all : (x y : X) (ys : List X) → before y x ≡ false → Above y ys → Above x ys
  above_all x y [] first above = tt
  above_all x y (z ∷ ys) first above = (o.chain z y x above.0 first, above_all x y ys first above.1)

  rises_if_sorted : (xs : List X) → IsSortedBy before xs → Rises xs
  rises_if_sorted [] up = tt
  rises_if_sorted (x ∷ []) up = (tt, tt)
  rises_if_sorted (x ∷ y ∷ ys) up =
      let first : before y x ≡ false = up 0 x (omega arith) (omega arith) in
      let next : IsSortedBy before (y ∷ ys) = λ k d low lt.
      let one_more : suc k + 1 ≡ suc (k + 1) = omega arith in
      subst (λ (n : ℕ). before (get_or (x ∷ y ∷ ys) n d) (get_or (y ∷ ys) k d) ≡ false) one_more (up (suc k) d (omega arith) (omega arith)) in
      let rest = rises_if_sorted (y ∷ ys) next in
      ((first, above_all x y ys first rest.0), rest)

  not_itself : (x : X) → before x x ≡ false
  not_itself x = at (before x x) refl
    where
      at : (b : Bool) → before x x ≡ b → before x x ≡ false
      at true is = o.one_way x x is
      at false is = is

  ties_itself : (x : X) → ties before x x ≡ true
  ties_itself x = ap (λ (b : Bool). not b && not b) (not_itself x)

  -- ---- only one list rises and has the same ties in the same order

  -- an item of a list comes before none that all of the list is above
  among_above : (p : X → Bool) (z x : X) (ys rest : List X) → Above z ys → filter p ys ≡ x ∷ rest → before x z ≡ false
  among_above p z x [] rest above is = nil_is_no_cons x rest is
  among_above p z x (y ∷ ys) rest above is = at (p y) (λ (e : filter p ys ≡ x ∷ rest). among_above p z x ys rest above.1 e) is
    where
      at : (b : Bool) → (filter p ys ≡ x ∷ rest → before x z ≡ false)
          → cond b (y ∷ filter p ys) (filter p ys) ≡ x ∷ rest → before x z ≡ false
      at true behind is = subst (λ (w : X). before w z ≡ false) (ap (λ (l : List X). get_or l 0 y) is) above.0
      at false behind is = behind is

  front_tie : (x : X) (xs : List X) → with_ties x (x ∷ xs) ≡ x ∷ with_ties x xs
  front_tie x xs = ap (λ (b : Bool). cond b (x ∷ with_ties x xs) (with_ties x xs)) (ties_itself x)

  front_no_earlier : (x y : X) (xs ys : List X) → Above y ys → with_ties x (x ∷ xs) ≡ with_ties x (y ∷ ys) → before x y ≡ false
  front_no_earlier x y xs ys above same =
      among_above (ties before x) y x (y ∷ ys) (with_ties x xs) (not_itself y, above) (sym same ∙ front_tie x xs)

  -- two such lists begin with one item
  same_front : (x y : X) (xs ys : List X) → Above x xs → Above y ys → ((z : X) → with_ties z (x ∷ xs) ≡ with_ties z (y ∷ ys)) → x ≡ y
  same_front x y xs ys low high same =
      let left = front_no_earlier x y xs ys high (same x) in
      let right = front_no_earlier y x ys xs low (sym (same y)) in
      let tied : ties before x y ≡ true = λ i. not (left i) && not (right i) in
      let second : with_ties x (y ∷ ys) ≡ y ∷ with_ties x ys = ap (λ (b : Bool). cond b (y ∷ with_ties x ys) (with_ties x ys)) tied in
      ap (λ (l : List X). get_or l 0 x) (sym (front_tie x xs) ∙ same x ∙ second)

  behind_front : (z x : X) (xs ys : List X) → with_ties z (x ∷ xs) ≡ with_ties z (x ∷ ys) → with_ties z xs ≡ with_ties z ys
  behind_front z x xs ys = at (ties before z x)
    where
      at : (b : Bool) → cond b (x ∷ with_ties z xs) (with_ties z xs) ≡ cond b (x ∷ with_ties z ys) (with_ties z ys)
          → with_ties z xs ≡ with_ties z ys
      at true same = ap (drop 1) same
      at false same = same

  only_one : (xs ys : List X) → Rises xs → Rises ys → ((z : X) → with_ties z xs ≡ with_ties z ys) → xs ≡ ys
  only_one [] [] low high same = refl
  only_one [] (y ∷ ys) low high same = nil_is_no_cons y (with_ties y ys) (same y ∙ front_tie y ys)
  only_one (x ∷ xs) [] low high same = nil_is_no_cons x (with_ties x xs) (sym (same x) ∙ front_tie x xs)
  only_one (x ∷ xs) (y ∷ ys) low high same =
      let front : x ≡ y = same_front x y xs ys low.0 high.0 same in
      let behind : (z : X) → with_ties z xs ≡ with_ties z ys =
      λ z. behind_front z y xs ys (subst (λ (w : X). with_ties z (w ∷ xs) ≡ with_ties z (y ∷ ys)) front (same z)) in
      ap (λ (w : X). w ∷ xs) front ∙ ap (λ (l : List X). y ∷ l) (only_one xs ys low.1 high.1 behind)

  -- ---- the list in that order is such a list

  above_put_in : (z x : X) (ys : List X) → before x z ≡ false → Above z ys → Above z (put_in before x ys)
  above_put_in z x [] first above = (first, tt)
  above_put_in z x (y ∷ ys) first above = at (before y x) (above_put_in z x ys first above.1)
    where
      at : (b : Bool) → Above z (put_in before x ys) → Above z (cond b (y ∷ put_in before x ys) (x ∷ y ∷ ys))
      at true behind = (above.0, behind)
      at false behind = (first, above)

  rises_put_in : (x : X) (ys : List X) → Rises ys → Rises (put_in before x ys)
  rises_put_in x [] rises = (tt, tt)
  rises_put_in x (y ∷ ys) rises = at (before y x) refl (rises_put_in x ys rises.1)
    where
      at : (b : Bool) → before y x ≡ b → Rises (put_in before x ys) → Rises (cond b (y ∷ put_in before x ys) (x ∷ y ∷ ys))
      at true is behind = (above_put_in y x ys (o.one_way y x is) rises.0, behind)
      at false is behind = ((is, above_all x y ys is rises.0), rises)

  rises_sorted : (xs : List X) → Rises (sorted_by before xs)
  rises_sorted [] = tt
  rises_sorted (x ∷ xs) = rises_put_in x (sorted_by before xs) (rises_sorted xs)

  -- of two items one of which comes before the other no item ties with both
  ties_with_one : {G : Type 0} (z x y : X) → before y x ≡ true → ties before z x ≡ true → ties before z y ≡ true → G
  ties_with_one z x y earlier one other =
      let low = not_true _ (second_so (not (before z y)) (not (before y z)) other) in
      let high = not_true _ (first_so (not (before z x)) (not (before x z)) one) in
      absurd (true≢false (sym earlier ∙ o.chain y z x low high))

  ties_put_in : (z x : X) (ys : List X) → with_ties z (put_in before x ys) ≡ with_ties z (x ∷ ys)
  ties_put_in z x [] = refl
  ties_put_in z x (y ∷ ys) = at (before y x) refl (ties_put_in z x ys)
    where
      rest : List X
      rest = with_ties z ys

      swapped : (b c : Bool) → ties before z x ≡ b → ties before z y ≡ c → before y x ≡ true
          → cond c (y ∷ cond b (x ∷ rest) rest) (cond b (x ∷ rest) rest) ≡ cond b (x ∷ cond c (y ∷ rest) rest) (cond c (y ∷ rest) rest)
      swapped true true one other earlier = ties_with_one z x y earlier one other
      swapped true false one other earlier = refl
      swapped false c one other earlier = refl

      at : (b : Bool) → before y x ≡ b → with_ties z (put_in before x ys) ≡ with_ties z (x ∷ ys)
          → with_ties z (cond b (y ∷ put_in before x ys) (x ∷ y ∷ ys)) ≡ with_ties z (x ∷ y ∷ ys)
      at true is behind =
          ap (λ (l : List X). cond (ties before z y) (y ∷ l) l) behind ∙ swapped (ties before z x) (ties before z y) refl refl is
      at false is behind = refl

  ties_sorted : (z : X) (xs : List X) → with_ties z (sorted_by before xs) ≡ with_ties z xs
  ties_sorted z [] = refl
  ties_sorted z (x ∷ xs) =
      ties_put_in z x (sorted_by before xs) ∙ ap (λ (l : List X). cond (ties before z x) (x ∷ l) l) (ties_sorted z xs)

  -- what is sorted and stable is the list in the order of the test
  pub stably_sorted : (xs ys : List X) → IsSortedBy before ys → IsStableBy before xs ys → ys ≡ sorted_by before xs
  stably_sorted xs ys up stable =
      only_one ys (sorted_by before xs) (rises_if_sorted ys up) (rises_sorted xs) (λ z. stable z ∙ sym (ties_sorted z xs))

-- what a stable sort by a total order makes of a list
pub sorted_by_cmp : {X F : Type 0} {g : Mut F (Bor X × (Bor X × Unit {0})) Ordering} {f : F} (cmp : X → X → Ordering) → IsTotalOrder cmp
    → (xs ys : List X) → ((lt : X → X → Bool) → IsStrictWeakOrder lt → ComparesAs g lt f → IsSortedBy lt ys)
    → ((lt : X → X → Bool) → IsStrictWeakOrder lt → ComparesAs g lt f → IsStableBy lt xs ys)
    → ((a : Bor X × (Bor X × Unit {0})) (r : Ordering) (f' : F) → Called g f a r f' → (r ≡ cmp a.0.now a.1.0.now) × (f' ≡ f))
    → ys ≡ sorted_by (λ (x y : X). is_lt (cmp x y)) xs
sorted_by_cmp {X} {g = g} {f = f} cmp total xs ys up stable called =
    let lt : X → X → Bool = λ x y. is_lt (cmp x y) in
    let weak : IsStrictWeakOrder lt = ranks_by total (λ (x : X). x) in
    let compares : ComparesAs g lt f =
    always_returns_same g (λ a r. is_lt r ≡ lt a.0.now a.1.0.now) f (λ a r f' k. (ap is_lt (called a r f' k).0, (called a r f' k).1)) in
    stably_sorted lt weak xs ys (up lt weak compares) (stable lt weak compares)

-- an item put into a list, and what another list is made of it
map_put_in : {X Y : Type 0} (g : X → Y) (before : Y → Y → Bool) (x : X) (ys : List X)
    → map g (put_in (λ (a b : X). before (g a) (g b)) x ys) ≡ put_in before (g x) (map g ys)
map_put_in g before x [] = refl
map_put_in {X} {Y} g before x (y ∷ ys) = at (before (g y) (g x)) (map_put_in g before x ys)
  where
    at : (b : Bool) → map g (put_in (λ (a b : X). before (g a) (g b)) x ys) ≡ put_in before (g x) (map g ys)
        → map g (cond b (y ∷ put_in (λ (a b : X). before (g a) (g b)) x ys) (x ∷ y ∷ ys)) ≡ cond b (g y ∷ put_in before (g x) (map g ys)) (g x ∷ g y ∷ map g ys)
    at true rest = ap (λ (l : List Y). g y ∷ l) rest
    at false rest = refl

-- items in the order of a test of what is made of them make just that in the order of the test
pub map_sorted : {X Y : Type 0} (g : X → Y) (before : Y → Y → Bool) (xs : List X)
    → map g (sorted_by (λ (a b : X). before (g a) (g b)) xs) ≡ sorted_by before (map g xs)
map_sorted g before [] = refl
map_sorted {X} {Y} g before (x ∷ xs) =
    map_put_in g before x (sorted_by (λ (a b : X). before (g a) (g b)) xs) ∙ ap (put_in before (g x)) (map_sorted g before xs)
