-- What elements give together.
use Rattle.std.proofs.Common.{◌≡◌, Bool, true, false, cond, List, [], ◌∷◌, ◌++◌, map, ℕ, ◌+◌, ◌<◌, ◌≤◌, length, drop, get_or, refl, sym, ap, ◌∙◌, Option, Some, None}
use Rattle.std.specs.Prelude.{◌&&◌, ◌||◌}
use Rattle.std.specs.List.{filter, list_any, flat_map, slice_get, cons_option}
use Rattle.std.specs.Option.{option_map_or}
use Rattle.std.proofs.lemmas.List.Elements.{filter-append}
use Rattle.std.proofs.lemmas.List.{at_drop_more, at_drop_all}
use Rattle.aa_compile.specs.Gathered.{gather, picked}

-- joins for which repeats and order of brackets don't matter
pub record IsJoin {M : Type 0} (join : M → M → M) (none : M) : Type 0 where
  pub assoc : (a b c : M) → join (join a b) c ≡ join a (join b c)
  pub left : (a : M) → join none a ≡ a
  pub right : (a : M) → join a none ≡ a
  pub same : (a : M) → join a a ≡ a

module _ {X M : Type 0} (join : M → M → M) (none : M) (laws : IsJoin join none) (f : X → M) where
  pub gather-append : (xs ys : List X) → gather join none f (xs ++ ys) ≡ join (gather join none f xs) (gather join none f ys)
  gather-append [] ys = sym (laws.left (gather join none f ys))
  gather-append (x ∷ xs) ys = ap (join (f x)) (gather-append xs ys) ∙ sym (laws.assoc (f x) (gather join none f xs) (gather join none f ys))

pub gather-map : {X Y M : Type 0} (join : M → M → M) (none : M) (f : Y → M) (g : X → Y) (xs : List X) → gather join none f (map g xs) ≡ gather join none (λ x. f (g x)) xs
gather-map join none f g [] = refl
gather-map join none f g (x ∷ xs) = ap (join (f (g x))) (gather-map join none f g xs)

-- functions that give the same
pub gather_agree : {X M : Type 0} (join : M → M → M) (none : M) (f g : X → M) → ((x : X) → f x ≡ g x) → (xs : List X) → gather join none f xs ≡ gather join none g xs
gather_agree join none f g same [] = refl
gather_agree join none f g same (x ∷ xs) = ap (λ m. join m (gather join none f xs)) (same x) ∙ ap (join (g x)) (gather_agree join none f g same xs)

-- a part of what they give
pub gather_part : {X M N : Type 0} (join : M → M → M) (none : M) (meet : N → N → N) (nil : N) (part : M → N)
    → ((a b : M) → part (join a b) ≡ meet (part a) (part b)) → part none ≡ nil → (f : X → M) (xs : List X)
    → part (gather join none f xs) ≡ gather meet nil (λ x. part (f x)) xs
gather_part join none meet nil part joins nils f [] = nils
gather_part join none meet nil part joins nils f (x ∷ xs) = joins (f x) (gather join none f xs) ∙ ap (meet (part (f x))) (gather_part join none meet nil part joins nils f xs)

pub filter-map : {X Y : Type 0} (test : Y → Bool) (f : X → Y) (xs : List X) → filter test (map f xs) ≡ map f (filter (λ x. test (f x)) xs)
filter-map test f [] = refl
filter-map test f (x ∷ xs) = ap (λ l. cond (test (f x)) (f x ∷ l) l) (filter-map test f xs) ∙ step (test (f x))
  where
    step : (b : Bool) → cond b (f x ∷ map f (filter (λ y. test (f y)) xs)) (map f (filter (λ y. test (f y)) xs)) ≡ map f (cond b (x ∷ filter (λ y. test (f y)) xs) (filter (λ y. test (f y)) xs))
    step true = refl
    step false = refl

module _ {R P M : Type 0} (join : M → M → M) (none : M) (laws : IsJoin join none) (patterns : R → List P) (matches sort : P → Bool) (g : R → M) where
  both_cases : (m s a : Bool) (x : M) → cond m (join (cond s x none) (cond a x none)) (cond a x none) ≡ cond ((s && m) || a) x none
  both_cases true true true x = laws.same x
  both_cases true true false x = laws.right x
  both_cases true false true x = laws.left x
  both_cases true false false x = laws.left none
  both_cases false true a x = refl
  both_cases false false a x = refl

  abbrev given : R → P → M
  given r p = cond (sort p) (g r) none

  gather_cond : (F : P → M) (b : Bool) (p : P) (ps : List P) → gather join none F (cond b (p ∷ ps) ps) ≡ cond b (join (F p) (gather join none F ps)) (gather join none F ps)
  gather_cond F true p ps = refl
  gather_cond F false p ps = refl

  -- what one rule gives by those of its patterns that match
  of_one : (r : R) (ps : List P) → gather join none (given r) (filter matches ps) ≡ cond (list_any (λ p. sort p && matches p) ps) (g r) none
  of_one r [] = refl
  of_one r (p ∷ ps) =
      gather_cond (given r) (matches p) p (filter matches ps)
      ∙ ap (λ m. cond (matches p) (join (given r p) m) m) (of_one r ps)
      ∙ both_cases (matches p) (sort p) (list_any (λ p. sort p && matches p) ps) (g r)

  gather_cond_rule : (F : R → M) (b : Bool) (r : R) (rs : List R) → gather join none F (cond b (r ∷ rs) rs) ≡ join (cond b (F r) none) (gather join none F rs)
  gather_cond_rule F true r rs = refl
  gather_cond_rule F false r rs = sym (laws.left (gather join none F rs))

  abbrev hits_of : R → List (R × P)
  hits_of r = map (λ p. (r, p)) (patterns r)

  abbrev of_hit : R × P → M
  of_hit h = given h.0 h.1

  -- what the patterns that match give is what the rules give that have such a pattern
  pub of_hits : (rs : List R) → gather join none of_hit (filter (λ h. matches h.1) (flat_map hits_of rs)) ≡ gather join none g (filter (λ r. list_any (λ p. sort p && matches p) (patterns r)) rs)
  of_hits [] = refl
  of_hits (r ∷ rs) =
      ap (gather join none of_hit) (filter-append (λ (h : R × P). matches h.1) (hits_of r) (flat_map hits_of rs))
      ∙ gather-append join none laws of_hit (filter (λ h. matches h.1) (hits_of r)) (filter (λ h. matches h.1) (flat_map hits_of rs))
      ∙ ap (λ l. join (gather join none of_hit l) (gather join none of_hit (filter (λ h. matches h.1) (flat_map hits_of rs)))) (filter-map (λ (h : R × P). matches h.1) (λ p. (r, p)) (patterns r))
      ∙ ap (λ m. join m (gather join none of_hit (filter (λ h. matches h.1) (flat_map hits_of rs)))) (gather-map join none of_hit (λ p. (r, p)) (filter matches (patterns r)) ∙ of_one r (patterns r))
      ∙ ap (join (cond (list_any (λ p. sort p && matches p) (patterns r)) (g r) none)) (of_hits rs)
      ∙ sym (gather_cond_rule g (list_any (λ p. sort p && matches p) (patterns r)) r (filter (λ r. list_any (λ p. sort p && matches p) (patterns r)) rs))

-- a test that what is given takes with it
pub gather_tested : {R M : Type 0} (join : M → M → M) (none : M) → IsJoin join none → (t q : R → Bool) (g : R → M) (rs : List R)
    → gather join none (λ r. cond (t r) (g r) none) (filter q rs) ≡ gather join none g (filter (λ r. t r && q r) rs)
gather_tested join none laws t q g [] = refl
gather_tested join none laws t q g (r ∷ rs) =
    outer (q r) ∙ ap (λ m. cond (q r) (join (cond (t r) (g r) none) m) m) (gather_tested join none laws t q g rs) ∙ both_ways (t r) (q r)
  where
    outer : (b : Bool) → gather join none (λ r. cond (t r) (g r) none) (cond b (r ∷ filter q rs) (filter q rs)) ≡ cond b
        (join (cond (t r) (g r) none) (gather join none (λ r. cond (t r) (g r) none) (filter q rs)))
        (gather join none (λ r. cond (t r) (g r) none) (filter q rs))
    outer true = refl
    outer false = refl

    both_ways : (a b : Bool) → cond b (join (cond a (g r) none) (gather join none g (filter (λ r. t r && q r) rs)))
        (gather join none g (filter (λ r. t r && q r) rs)) ≡ gather join none g
        (cond (a && b) (r ∷ filter (λ r. t r && q r) rs) (filter (λ r. t r && q r) rs))
    both_ways true true = refl
    both_ways true false = refl
    both_ways false true = laws.left (gather join none g (filter (λ r. t r && q r) rs))
    both_ways false false = refl

-- what a loop over numbers has so far, with what the rest gives
module _ {X M : Type 0} (join : M → M → M) (none : M) (laws : IsJoin join none) (f : X → M) (xs : List X) where
  abbrev pub rest_of : List ℕ → M
  rest_of ns = gather join none f (picked xs ns)

  pub gather_more : (ns : List ℕ) (i : ℕ) (x : X) (acc next total : M) → i < length ns → slice_get xs (get_or ns i 0) ≡ Some x
      → next ≡ join acc (f x) → join acc (rest_of (drop i ns)) ≡ total → join next (rest_of (drop (i + 1) ns)) ≡ total
  gather_more ns i x acc next total lt at e so_far =
      let here : rest_of (drop i ns) ≡ join (f x) (rest_of (drop (i + 1) ns)) = at_drop_more rest_of ns i 0 lt ∙ ap (λ o. gather join none f (cons_option o (picked xs (drop (i + 1) ns)))) at in
      ap (λ m. join m (rest_of (drop (i + 1) ns))) e ∙ laws.assoc acc (f x) (rest_of (drop (i + 1) ns)) ∙ ap (join acc) (sym here) ∙ so_far

  pub gather_skip : (ns : List ℕ) (i : ℕ) (acc next total : M) → i < length ns → slice_get xs (get_or ns i 0) ≡ None → next ≡ acc → join acc (rest_of (drop i ns)) ≡ total → join next (rest_of (drop (i + 1) ns)) ≡ total
  gather_skip ns i acc next total lt at e so_far =
      let here : rest_of (drop i ns) ≡ rest_of (drop (i + 1) ns) = at_drop_more rest_of ns i 0 lt ∙ ap (λ o. gather join none f (cons_option o (picked xs (drop (i + 1) ns)))) at in
      ap (λ m. join m (rest_of (drop (i + 1) ns))) e ∙ ap (join acc) (sym here) ∙ so_far

  pub gather_all : (ns : List ℕ) (i : ℕ) (acc total : M) → length ns ≤ i → join acc (rest_of (drop i ns)) ≡ total → acc ≡ total
  gather_all ns i acc total le so_far = sym (laws.right acc) ∙ sym (ap (join acc) (at_drop_all rest_of ns i le)) ∙ so_far

  -- whether the number names an element or not
  pub gather_next : (ns : List ℕ) (i : ℕ) (acc next total : M) → i < length ns
      → next ≡ join acc (option_map_or f (slice_get xs (get_or ns i 0)) none) → join acc (rest_of (drop i ns)) ≡ total
      → join next (rest_of (drop (i + 1) ns)) ≡ total
  gather_next ns i acc next total lt e so_far = at (slice_get xs (get_or ns i 0)) refl
    where
      at : (o : Option X) → slice_get xs (get_or ns i 0) ≡ o → join next (rest_of (drop (i + 1) ns)) ≡ total
      at None found = gather_skip ns i acc next total lt found (e ∙ ap (λ o. join acc (option_map_or f o none)) found ∙ laws.right acc) so_far
      at (Some x) found = gather_more ns i x acc next total lt found (e ∙ ap (λ o. join acc (option_map_or f o none)) found) so_far
