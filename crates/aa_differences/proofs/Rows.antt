-- Lists that are alike place by place, and what is made of them.
use Rattle.std.proofs.Common.{◌≡◌, ℕ, zero, suc, List, [], ◌∷◌, ◌++◌, map, Bool, true, false, cond, Some, None, refl, ap, ◌∙◌, length}
use Rattle.std.specs.Prelude.{◌||◌, ◌+◌, nat_lt, not}
use Rattle.std.specs.List.{AllZip, filter, list_any, slice_get, position_or_len, position}
use Rattle.aa_differences.specs.Sameness.{IsAlike}

module _ {X : Type 0} (R : X → X → Type 0) where
  pub any_alike : (f g : X → Bool) → ((x y : X) → R x y → f x ≡ g y) → (xs ys : List X) → AllZip R xs ys → list_any f xs ≡ list_any g ys
  any_alike f g same [] [] h = refl
  any_alike f g same (x ∷ xs) (y ∷ ys) h = ap (λ (b : Bool). b || list_any f xs) (same x y h.0) ∙ ap (λ (b : Bool). g y || b) (any_alike f g same xs ys h.1)
  any_alike f g same [] (y ∷ ys) h = absurd h
  any_alike f g same (x ∷ xs) [] h = absurd h

  pub filter_alike : (f g : X → Bool) → ((x y : X) → R x y → f x ≡ g y) → (xs ys : List X) → AllZip R xs ys → AllZip R (filter f xs) (filter g ys)
  filter_alike f g same [] [] h = tt
  filter_alike f g same (x ∷ xs) (y ∷ ys) h = by (f x) (g y) (same x y h.0) (filter_alike f g same xs ys h.1)
    where
      by : (b c : Bool) → b ≡ c → AllZip R (filter f xs) (filter g ys) → AllZip R (cond b (x ∷ filter f xs) (filter f xs)) (cond c (y ∷ filter g ys) (filter g ys))
      by true true e rest = (h.0, rest)
      by false false e rest = rest
      by true false e rest = absurd cc
      by false true e rest = absurd cc
  filter_alike f g same [] (y ∷ ys) h = absurd h
  filter_alike f g same (x ∷ xs) [] h = absurd h

  pub map_alike : {A : Type 0} (f : X → A) → ((x y : X) → R x y → f x ≡ f y) → (xs ys : List X) → AllZip R xs ys → map f xs ≡ map f ys
  map_alike f same [] [] h = refl
  map_alike f same (x ∷ xs) (y ∷ ys) h = ap (λ a. a ∷ map f xs) (same x y h.0) ∙ ap (λ as'. f y ∷ as') (map_alike f same xs ys h.1)
  map_alike f same [] (y ∷ ys) h = absurd h
  map_alike f same (x ∷ xs) [] h = absurd h

  pub map_rows : {A : Type 0} (S : A → A → Type 0) (f : X → A) → ((x y : X) → R x y → S (f x) (f y)) → (xs ys : List X) → AllZip R xs ys → AllZip S (map f xs) (map f ys)
  map_rows S f same [] [] h = tt
  map_rows S f same (x ∷ xs) (y ∷ ys) h = (same x y h.0, map_rows S f same xs ys h.1)
  map_rows S f same [] (y ∷ ys) h = absurd h
  map_rows S f same (x ∷ xs) [] h = absurd h

  pub append_alike : (as' bs xs ys : List X) → AllZip R as' bs → AllZip R xs ys → AllZip R (as' ++ xs) (bs ++ ys)
  append_alike [] [] xs ys g h = h
  append_alike (a ∷ as') (b ∷ bs) xs ys g h = (g.0, append_alike as' bs xs ys g.1 h)
  append_alike [] (b ∷ bs) xs ys g h = absurd g
  append_alike (a ∷ as') [] xs ys g h = absurd g

  pub got_alike : (xs ys : List X) (i : ℕ) → AllZip R xs ys → IsAlike R (slice_get xs i) (slice_get ys i)
  got_alike [] [] i h = tt
  got_alike (x ∷ xs) (y ∷ ys) zero h = h.0
  got_alike (x ∷ xs) (y ∷ ys) (suc i) h = got_alike xs ys i h.1
  got_alike [] (y ∷ ys) i h = absurd h
  got_alike (x ∷ xs) [] i h = absurd h

  pub long_alike : (xs ys : List X) → AllZip R xs ys → length xs ≡ length ys
  long_alike [] [] h = refl
  long_alike (x ∷ xs) (y ∷ ys) h = ap suc (long_alike xs ys h.1)
  long_alike [] (y ∷ ys) h = absurd h
  long_alike (x ∷ xs) [] h = absurd h

  first_alike : (f : X → Bool) → ((x y : X) → R x y → f x ≡ f y) → (xs ys : List X) → AllZip R xs ys → position_or_len f xs ≡ position_or_len f ys
  first_alike f same [] [] h = refl
  first_alike f same (x ∷ xs) (y ∷ ys) h = by (f x) (f y) (same x y h.0) (first_alike f same xs ys h.1)
    where
      by : (b c : Bool) → b ≡ c → position_or_len f xs ≡ position_or_len f ys → cond (not b) (1 + position_or_len f xs) 0 ≡ cond (not c) (1 + position_or_len f ys) 0
      by true true e rest = refl
      by false false e rest = ap (λ (n : ℕ). 1 + n) rest
      by true false e rest = absurd cc
      by false true e rest = absurd cc
  first_alike f same [] (y ∷ ys) h = absurd h
  first_alike f same (x ∷ xs) [] h = absurd h

  pub position_alike : (f : X → Bool) → ((x y : X) → R x y → f x ≡ f y) → (xs ys : List X) → AllZip R xs ys → position f xs ≡ position f ys
  position_alike f same xs ys h =
      ap (λ (n : ℕ). cond (nat_lt n (length xs)) (Some n) None) (first_alike f same xs ys h)
      ∙ ap (λ (n : ℕ). cond (nat_lt (position_or_len f ys) n) (Some (position_or_len f ys)) None) (long_alike xs ys h)
