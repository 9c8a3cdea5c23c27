-- Rows by what lies in memory: what stays as there are more paths, and what a row more does.
use Rattle.std.proofs.Common.{◌≡◌, ℕ, zero, suc, ◌<◌, ◌≤◌, nat_lt, List, [], ◌∷◌, ◌++◌, length, map, set, get_or, Bool, true, false}
use Rattle.std.proofs.Common.{cond, Option, Some, None, refl, sym, ap, ◌∙◌, arith}
use Rattle.std.specs.Prelude.{slice_get, option_map}
use Rattle.std.specs.List.{position, position_or_len}
use Rattle.std.specs.Str.{bytes_eq}
use Rattle.std.proofs.lemmas.List.{length-map}
use Rattle.std.proofs.lemmas.List.Sums.{fails_before_first}
use Rattle.std.proofs.lemmas.List.Quantifiers.{position-Some}
use Rattle.std.proofs.lemmas.Bool.{ltb-false}
use Rattle.aa_log.specs.Counted.{Counted}
use Rattle.aa_log.proofs.Entries.{position-map}
use Rattle.aa_log.specs.Joined.{raised, with_row}

is_none : (b : Bool) (n : ℕ) → cond b (Some n) None ≡ None → b ≡ false
is_none true n e = absurd (cc)
is_none false n e = refl

module _ {X : Type 0} where
  still_there : (xs more : List X) (n : ℕ) (v : X) → slice_get xs n ≡ Some v → slice_get (xs ++ more) n ≡ Some v
  still_there [] more n v e = absurd (cc)
  still_there (x ∷ xs) more zero v e = e
  still_there (x ∷ xs) more (suc n) v e = still_there xs more n v e

  pub get_there : (xs : List X) (n : ℕ) (d : X) → n < length xs → slice_get xs n ≡ Some (get_or xs n d)
  get_there [] n d lt = absurd (omega (arith, lt))
  get_there (x ∷ xs) zero d lt = refl
  get_there (x ∷ xs) (suc n) d lt = get_there xs n d (omega (arith, lt))

  pub behind_them : (xs : List X) (v : X) → slice_get (xs ++ v ∷ []) (length xs) ≡ Some v
  behind_them [] v = refl
  behind_them (x ∷ xs) v = behind_them xs v

-- what is read of something with the path of a place in it
module _ {X R : Type 0} (read : X → List ℕ → R) (log : X → ℕ) where
  abbrev pub placed : List (List ℕ) → X → Option R
  placed paths x = option_map (read x) (slice_get paths (log x))

  pub placed_still : (paths more : List (List ℕ)) (x : X) (r : R) → placed paths x ≡ Some r → placed (paths ++ more) x ≡ Some r
  placed_still paths more x r e =
      (elim (slice_get paths (log x)) as (λ o. slice_get paths (log x) ≡ o → option_map (read x) o ≡ Some r → placed (paths ++ more) x ≡ Some r) [
        | None ↦ λ is none. absurd (cc)
        | Some path ↦ λ is some. ap (option_map (read x)) (still_there paths more (log x) path is) ∙ some
      ]) refl e

  -- rows stay as they are where there are more paths
  pub rows_still : (paths more : List (List ℕ)) (xs : List X) (rows : List R) → map (placed paths) xs ≡ map Some rows
      → map (placed (paths ++ more)) xs ≡ map Some rows
  rows_still paths more [] [] e = refl
  rows_still paths more [] (r ∷ rows) e = absurd (cc)
  rows_still paths more (x ∷ xs) [] e = absurd (cc)
  rows_still paths more (x ∷ xs) (r ∷ rows) e =
      let head : placed paths x ≡ Some r = cc in
      let tail : map (placed paths) xs ≡ map Some rows = cc in
      ap (λ (o : Option R). o ∷ map (placed (paths ++ more)) xs) (placed_still paths more x r head)
      ∙ ap (λ (l : List (Option R)). Some r ∷ l) (rows_still paths more xs rows tail)

module _ {X A : Type 0} (view : X → Option (Counted A)) where
  -- a row with a count more
  pub raised_there : (xs : List X) (rows : List (Counted A)) (n : ℕ) (x new : X) (d : Counted A) (count : ℕ) → map view xs ≡ map Some rows
      → slice_get xs n ≡ Some x
      → ((r : Counted A) → view x ≡ Some r → view new ≡ Some (raised r count))
      → map view (set xs n new) ≡ map Some (set rows n (raised (get_or rows n d) count))
  raised_there [] rows n x new d count are there more = absurd (cc)
  raised_there (y ∷ xs) [] n x new d count are there more = absurd (cc)
  raised_there (y ∷ xs) (r ∷ rows) zero x new d count are there more =
      let here : y ≡ x = cc in
      let head : view y ≡ Some r = cc in
      let tail : map view xs ≡ map Some rows = cc in
      ap (λ (o : Option (Counted A)). o ∷ map view xs) (more r (sym (ap view here) ∙ head))
      ∙ ap (λ (l : List (Option (Counted A))). Some (raised r count) ∷ l) tail
  raised_there (y ∷ xs) (r ∷ rows) (suc n) x new d count are there more =
      let head : view y ≡ Some r = cc in
      let tail : map view xs ≡ map Some rows = cc in
      ap (λ (o : Option (Counted A)). o ∷ map view (set xs n new)) head
      ∙ ap (λ (l : List (Option (Counted A))). Some r ∷ l) (raised_there xs rows n x new d count tail there more)

  -- rows are found by the keys of what lies there
  pub keys_alike : (of : X → List ℕ) (key : A → List ℕ) → ((x : X) (r : Counted A) → view x ≡ Some r → of x ≡ key r.item)
      → (xs : List X) (rows : List (Counted A)) → map view xs ≡ map Some rows
      → map of xs ≡ map (λ (c : Counted A). key c.item) rows
  keys_alike of key alike [] [] e = refl
  keys_alike of key alike [] (r ∷ rows) e = absurd (cc)
  keys_alike of key alike (x ∷ xs) [] e = absurd (cc)
  keys_alike of key alike (x ∷ xs) (r ∷ rows) e =
      let head : view x ≡ Some r = cc in
      let tail : map view xs ≡ map Some rows = cc in
      ap (λ (k : List ℕ). k ∷ map of xs) (alike x r head) ∙ ap (λ (l : List (List ℕ)). key r.item ∷ l) (keys_alike of key alike xs rows tail)

  pub rows_length : (xs : List X) (rows : List (Counted A)) → map view xs ≡ map Some rows → length rows ≡ length xs
  rows_length xs rows e = sym (length-map rows (λ (r : Counted A). Some r)) ∙ ap length (sym e) ∙ length-map xs view

module _ {A : Type 0} where
  -- where its keys are, a row is found
  pub place_by_keys : (key : A → List ℕ) (keys : List (List ℕ)) (rows : List (Counted A)) (k : List ℕ)
      → keys ≡ map (λ (c : Counted A). key c.item) rows
      → position (λ (c : Counted A). bytes_eq (key c.item) k) rows ≡ position (λ (l : List ℕ). bytes_eq l k) keys
  place_by_keys key keys rows k e = sym (position-map (λ (l : List ℕ). bytes_eq l k) (λ (c : Counted A). key c.item) rows)
      ∙ ap (position (λ (l : List ℕ). bytes_eq l k)) (sym e)

  there : (key : A → List ℕ) (cs : List (Counted A)) (r : Counted A) (n : ℕ) (d : Counted A) → n < length cs
      → bytes_eq (key ((get_or cs n d).item)) (key r.item) ≡ true → ((k : ℕ) → k < n → bytes_eq (key ((get_or cs k d).item)) (key r.item) ≡ false)
      → with_row key cs r ≡ set cs n (raised (get_or cs n d) r.count)
  unfolding with_row
  there key [] r n d lt is none = absurd (omega (arith, lt))
  there key (c ∷ cs) r zero d lt is none = ap (λ (b : Bool). cond b (raised c r.count ∷ cs) (c ∷ with_row key cs r)) is
  there key (c ∷ cs) r (suc n) d lt is none =
      ap (λ (b : Bool). cond b (raised c r.count ∷ cs) (c ∷ with_row key cs r)) (none 0 (omega arith))
      ∙ ap (λ (l : List (Counted A)). c ∷ l) (there key cs r n d (omega (arith, lt)) is (λ k lt. none (suc k) (omega arith)))

  nowhere : (key : A → List ℕ) (cs : List (Counted A)) (r d : Counted A)
      → ((k : ℕ) → k < length cs → bytes_eq (key ((get_or cs k d).item)) (key r.item) ≡ false) → with_row key cs r ≡ cs ++ r ∷ []
  unfolding with_row
  nowhere key [] r d none = refl
  nowhere key (c ∷ cs) r d none =
      ap (λ (b : Bool). cond b (raised c r.count ∷ cs) (c ∷ with_row key cs r)) (none 0 (omega arith))
      ∙ ap (λ (l : List (Counted A)). c ∷ l) (nowhere key cs r d (λ k lt. none (suc k) (omega arith)))

  -- a row whose key is there
  pub row_again : (key : A → List ℕ) (cs : List (Counted A)) (r : Counted A) (n : ℕ) (d : Counted A)
      → position (λ (c : Counted A). bytes_eq (key c.item) (key r.item)) cs ≡ Some n → with_row key cs r ≡ set cs n (raised (get_or cs n d) r.count)
  row_again key cs r n d e = let is = position-Some (λ (c : Counted A). bytes_eq (key c.item) (key r.item)) cs n d e in there key cs r n d is.0 is.1 is.2

  -- a row whose key is new
  pub row_new : (key : A → List ℕ) (cs : List (Counted A)) (r : Counted A)
      → position (λ (c : Counted A). bytes_eq (key c.item) (key r.item)) cs ≡ None → with_row key cs r ≡ cs ++ r ∷ []
  row_new key cs r e =
      let p : Counted A → Bool = λ c. bytes_eq (key c.item) (key r.item) in
      let isnt : nat_lt (position_or_len p cs) (length cs) ≡ false = is_none _ _ e in
      let le : length cs ≤ position_or_len p cs = ltb-false _ _ isnt in
      nowhere key cs r r (λ k lt. fails_before_first p cs k r (omega (arith, lt, le)))
