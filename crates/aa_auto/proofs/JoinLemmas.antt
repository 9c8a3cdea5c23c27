-- Patterns of two lists, their lists of numbers joined.
use Rattle.std.proofs.Common.{◌≡◌, ◌↔◌, ◌⊎◌, inl, inr, ℕ, zero, suc, ◌+◌, ◌-◌, ◌<◌, ◌≤◌, Some, List, [], ◌∷◌, ◌++◌, length, map, get_or, slice_get, All, Contains}
use Rattle.std.proofs.Common.{refl, sym, ap, ◌∙◌, subst, ⊎_elim, arith, length-append}
use Rattle.std.proofs.lemmas.Bool.{cases_lt}
use Rattle.std.proofs.lemmas.Option.{slice_get_within}
use Rattle.std.proofs.lemmas.List.{get_or_append_left, get_or-append-add, get_or-map, get_or_default, get_or_push, length-map, length_push}
use Rattle.std.proofs.lemmas.List.Elements.{All-head, All-tail, Contains-append_left, Contains-append_right, Contains-append_cases}
use Rattle.std.specs.List.Sorted.{IsStrictlyIncreasing}
use Rattle.aa_pattern.specs.Limits.{most_patterns}
use Rattle.aa_pattern.specs.declared.pattern.Pattern.{Pattern}
use Rattle.aa_pattern.specs.Globs.{Matches}
use Rattle.aa_pattern.specs.Places.{Position, IsPlace, SamePlaces}
use Rattle.aa_auto.specs.Classes.{IsSame}
use Rattle.aa_auto.specs.Tables.{Table, IsTable, IsAutomaton, ListsMatching, list_at, list_number, place_of}
use Rattle.aa_auto.specs.Pairs.{first, second, list_pair, joined, CanMove, AddsKey, IsPair, ArePairsIn, AreListsIn, AreListPairs}
use Rattle.aa_auto.proofs.PairLemmas.{first_of, second_of}

-- an element of the first list, or of the second
slice_get-left : {X : Type 0} (ps qs : List X) (n : ℕ) (p : X) → slice_get ps n ≡ Some p → slice_get (ps ++ qs) n ≡ Some p
slice_get-left [] qs n p e = absurd (cc e)
slice_get-left (x ∷ ps) qs zero p e = e
slice_get-left (x ∷ ps) qs (suc n) p e = slice_get-left ps qs n p e

slice_get-right : {X : Type 0} (ps qs : List X) (k n : ℕ) (p : X) → n ≡ length ps + k → slice_get qs k ≡ Some p → slice_get (ps ++ qs) n ≡ Some p
slice_get-right [] qs k n p is e = let same : k ≡ n = omega (arith, is) in subst (λ z. slice_get qs z ≡ Some p) same e
slice_get-right (x ∷ ps) qs k zero p is e = absurd (omega (arith, is))
slice_get-right (x ∷ ps) qs k (suc n) p is e = slice_get-right ps qs k n p (omega (arith, is)) e

slice_get-cases : {X : Type 0} (ps qs : List X) (n : ℕ) (p : X) → slice_get (ps ++ qs) n ≡ Some p → (slice_get ps n ≡ Some p) ⊎ ((k : ℕ) × (n ≡ length ps + k) × (slice_get qs k ≡ Some p))
slice_get-cases [] qs n p e = inr (n, omega arith, e)
slice_get-cases (x ∷ ps) qs zero p e = inl e
slice_get-cases {X} (x ∷ ps) qs (suc n) p e =
    ⊎_elim (λ (h : slice_get ps n ≡ Some p). inl h) (λ (h : (k : ℕ) × (n ≡ length ps + k) × (slice_get qs k ≡ Some p)). inr (h.0, omega (arith, h.1), h.2)) (slice_get-cases ps qs n p e)

-- the places of both
module _ (ps qs : List Pattern) where
  place_left : (s : List ℕ) (n : ℕ) (q : Position) → IsPlace ps s n q → IsPlace (ps ++ qs) s n q
  place_left s n q h = (h.0, h.1, slice_get-left ps qs n h.0 h.2, h.3, h.4)

  place_right : (s : List ℕ) (k : ℕ) (q : Position) → IsPlace qs s k q → IsPlace (ps ++ qs) s (length ps + k) q
  place_right s k q h = (h.0, h.1, slice_get-right ps qs k (length ps + k) h.0 refl h.2, h.3, h.4)

  place_cases : (s : List ℕ) (n : ℕ) (q : Position) → IsPlace (ps ++ qs) s n q → IsPlace ps s n q ⊎ ((k : ℕ) × (n ≡ length ps + k) × IsPlace qs s k q)
  place_cases s n q h =
      ⊎_elim
      (λ (e : slice_get ps n ≡ Some h.0). inl (h.0, h.1, e, h.3, h.4))
      (λ (e : (k : ℕ) × (n ≡ length ps + k) × (slice_get qs k ≡ Some h.0)). inr (e.0, e.1, (h.0, h.1, e.2, h.3, h.4)))
      (slice_get-cases ps qs n h.0 h.2)

  of_left : (s : List ℕ) (n : ℕ) (q : Position) → n < length ps → IsPlace (ps ++ qs) s n q → IsPlace ps s n q
  of_left s n q lt h =
      ⊎_elim (λ (l : IsPlace ps s n q). l) (λ (r : (k : ℕ) × (n ≡ length ps + k) × IsPlace qs s k q). absurd (omega (arith, lt, r.1))) (place_cases s n q h)

  of_right : (s : List ℕ) (k : ℕ) (q : Position) → IsPlace (ps ++ qs) s (length ps + k) q → IsPlace qs s k q
  of_right s k q h =
      ⊎_elim
      (λ (l : IsPlace ps s (length ps + k) q). absurd (omega (arith, slice_get_within ps (length ps + k) l.0 l.2)))
      (λ (r : (j : ℕ) × (length ps + k ≡ length ps + j) × IsPlace qs s j q). let same : r.0 ≡ k = omega (arith, r.1) in subst (λ z. IsPlace qs s z q) same r.2)
      (place_cases s (length ps + k) q h)

  half : (s t : List ℕ) → SamePlaces (ps ++ qs) s t → (n : ℕ) (q : Position) → IsPlace ps s n q → IsPlace ps t n q
  half s t same n q h = of_left t n q (slice_get_within ps n h.0 h.2) ((same n q).0 (place_left s n q h))

  half_back : (s t : List ℕ) → SamePlaces (ps ++ qs) s t → (n : ℕ) (q : Position) → IsPlace ps t n q → IsPlace ps s n q
  half_back s t same n q h = of_left s n q (slice_get_within ps n h.0 h.2) ((same n q).1 (place_left t n q h))

  whole : (s t : List ℕ) → SamePlaces ps s t → SamePlaces qs s t → (n : ℕ) (q : Position) → IsPlace (ps ++ qs) s n q → IsPlace (ps ++ qs) t n q
  whole s t a b n q h =
      ⊎_elim
      (λ (l : IsPlace ps s n q). place_left t n q ((a n q).0 l))
      (λ (r : (k : ℕ) × (n ≡ length ps + k) × IsPlace qs s k q). subst (λ z. IsPlace (ps ++ qs) t z q) (sym r.1) (place_right t r.0 q ((b r.0 q).0 r.2)))
      (place_cases s n q h)

  whole_back : (s t : List ℕ) → SamePlaces ps s t → SamePlaces qs s t → (n : ℕ) (q : Position) → IsPlace (ps ++ qs) t n q → IsPlace (ps ++ qs) s n q
  whole_back s t a b n q h =
      ⊎_elim
      (λ (l : IsPlace ps t n q). place_left s n q ((a n q).1 l))
      (λ (r : (k : ℕ) × (n ≡ length ps + k) × IsPlace qs t k q). subst (λ z. IsPlace (ps ++ qs) s z q) (sym r.1) (place_right s r.0 q ((b r.0 q).1 r.2)))
      (place_cases t n q h)

  -- texts have the same places in both lists exactly where they have them in each
  pub SamePlaces-append : (s t : List ℕ) → SamePlaces (ps ++ qs) s t ↔ (SamePlaces ps s t × SamePlaces qs s t)
  SamePlaces-append s t = (
    λ same. (
      λ n q. (half s t same n q, half_back s t same n q),
      λ k q. (
        λ h. of_right t k q ((same (length ps + k) q).0 (place_right s k q h)),
        λ h. of_right s k q ((same (length ps + k) q).1 (place_right t k q h)),
      ),
    ),
    λ both n q. (whole s t both.0 both.1 n q, whole_back s t both.0 both.1 n q),
  )

-- bytes that no item of both lists tells apart
pub IsSame-append : (a b : ℕ) (ps qs : List Pattern) → IsSame (ps ++ qs) a b ↔ (IsSame ps a b × IsSame qs a b)
IsSame-append a b [] qs = (λ s. (tt, s), λ s. s.1)
IsSame-append a b (p ∷ ps) qs =
    let r = IsSame-append a b ps qs in
    (λ s. let u = r.0 s.1 in ((s.0, u.0), u.1), λ s. (s.0.0, r.1 (s.0.1, s.1)))

-- the numbers of a list are those of patterns
below_many : (ps : List Pattern) (s xs : List ℕ) → ListsMatching ps s xs → All (λ n. n < length ps) xs
below_many ps s xs l k d lt =
    let n = get_or xs k d in
    let has : Contains xs n = (k, lt, get_or_default xs k n d lt) in
    let m = (l.exact n).0 has in
    slice_get_within ps n m.0 m.1

pub moved_in : (f : ℕ → ℕ) (ys : List ℕ) (n : ℕ) → Contains (map f ys) n → (y : ℕ) × Contains ys y × (n ≡ f y)
moved_in f ys n c =
    let lt : c.0 < length ys = omega (arith, c.1, length-map ys f) in
    let y = get_or ys c.0 0 in
    (y, (c.0, lt, get_or_default ys c.0 y 0 lt), sym c.2 ∙ get_or-map f ys c.0 0 n lt)

in_moved : (f : ℕ → ℕ) (ys : List ℕ) (y : ℕ) → Contains ys y → Contains (map f ys) (f y)
in_moved f ys y c = (c.0, omega (arith, c.1, length-map ys f), get_or-map f ys c.0 y (f y) c.1 ∙ ap f c.2)

module _ (ps qs : List Pattern) (s xs ys : List ℕ) (l : ListsMatching ps s xs) (r : ListsMatching qs s ys) where
  abbrev move : ℕ → ℕ
  move n = length ps + n

  both_in : (n : ℕ) → Contains (joined (length ps) xs ys) n → (p : Pattern) × (slice_get (ps ++ qs) n ≡ Some p) × Matches p.items.items s
  both_in n c =
      ⊎_elim
      (λ (h : Contains xs n). let m = (l.exact n).0 h in (m.0, slice_get-left ps qs n m.0 m.1, m.2))
      (λ (h : Contains (map (λ n. length ps + n) ys) n).
      let y = moved_in (λ n. length ps + n) ys n h in
      let m = (r.exact y.0).0 y.1 in
      (m.0, slice_get-right ps qs y.0 n m.0 y.2 m.1, m.2))
      (Contains-append_cases xs (map (λ n. length ps + n) ys) n c)

  in_both : (n : ℕ) → (p : Pattern) × (slice_get (ps ++ qs) n ≡ Some p) × Matches p.items.items s → Contains (joined (length ps) xs ys) n
  in_both n m =
      ⊎_elim
      (λ (e : slice_get ps n ≡ Some m.0). Contains-append_left xs (map (λ n. length ps + n) ys) n ((l.exact n).1 (m.0, e, m.2)))
      (λ (e : (k : ℕ) × (n ≡ length ps + k) × (slice_get qs k ≡ Some m.0)).
      subst (λ z. Contains (joined (length ps) xs ys) z) (sym e.1)
      (Contains-append_right xs (map (λ n. length ps + n) ys) (length ps + e.0) (in_moved (λ n. length ps + n) ys e.0 ((r.exact e.0).1 (m.0, e.2, m.2)))))
      (slice_get-cases ps qs n m.0 m.1)

  abbrev zs : List ℕ
  zs = map (λ n. length ps + n) ys

  at_left : (k : ℕ) → k < length xs → get_or (xs ++ zs) k 0 ≡ get_or xs k 0
  at_left k lt = get_or_append_left xs zs 0 k lt

  at_right : (k j : ℕ) → k ≡ length xs + j → j < length ys → get_or (xs ++ zs) k 0 ≡ length ps + get_or ys j 0
  at_right k j e lt = ap (λ z. get_or (xs ++ zs) z 0) e ∙ get_or-append-add xs zs j 0 ∙ get_or-map (λ n. length ps + n) ys j 0 0 lt

  rises : IsStrictlyIncreasing (xs ++ zs)
  rises k lt =
      let many : length (xs ++ zs) ≡ length xs + length ys = length-append xs zs ∙ ap (λ z. length xs + z) (length-map ys (λ n. length ps + n)) in
      ⊎_elim
      (λ (a : k + 1 < length xs). omega (arith, at_left k (omega arith), at_left (k + 1) a, l.rising k a))
      (λ (a : length xs ≤ k + 1).
      ⊎_elim
      (λ (b : k < length xs).
      let e : k + 1 ≡ length xs + 0 = omega (arith, a, b) in
      omega (arith, at_left k b, at_right (k + 1) 0 e (omega (arith, lt, many, a, b)), below_many ps s xs l k 0 b))
      (λ (b : length xs ≤ k).
      let j = k - length xs in
      let e : k ≡ length xs + j = omega (arith, b) in
      let f : k + 1 ≡ length xs + (j + 1) = omega (arith, b) in
      let m : j + 1 < length ys = omega (arith, lt, many, e) in
      omega (arith, at_right k j e (omega (arith, m)), at_right (k + 1) (j + 1) f m, r.rising j m))
      (cases_lt k (length xs)))
      (cases_lt (k + 1) (length xs))

  -- the joined lists are those of both
  pub lists-append : ListsMatching (ps ++ qs) s (joined (length ps) xs ys)
  lists-append = record { rising = rises; exact = λ n. (both_in n, in_both n) }

-- of an automaton, each list is some text's
pub lists_below : (ps : List Pattern) (t : Table) → IsAutomaton ps t → (i : ℕ) → i < length t.lists → All (λ n. n < length ps) (get_or t.lists i [])
lists_below ps t a i lt =
    let u = a.used i lt in
    subst (λ z. All (λ n. n < length ps) (get_or t.lists z [])) u.2 (below_many ps u.0 (list_at t (place_of t u.0)) (a.matching u.0 u.1))

-- so its numbers can be moved up as far as there may be patterns
pub can_move : (qs : List Pattern) (t : Table) (moved : ℕ) → IsAutomaton qs t → moved + length qs ≤ most_patterns → CanMove moved t.lists
can_move qs t moved a few i n lt c =
    let below : get_or (get_or t.lists i []) c.0 n < length qs = lists_below qs t a i lt c.0 n c.1 in
    omega (arith, below, c.2, few)

-- what was joined can be taken apart
map_same : (m : ℕ) (ys vs : List ℕ) → map (λ n. m + n) ys ≡ map (λ n. m + n) vs → ys ≡ vs
map_same m [] [] e = refl
map_same m [] (v ∷ vs) e = absurd (cc e)
map_same m (y ∷ ys) [] e = absurd (cc e)
map_same m (y ∷ ys) (v ∷ vs) e =
    let h : m + y ≡ m + v = cc e in
    let t : map (λ n. m + n) ys ≡ map (λ n. m + n) vs = cc e in
    let same : y ≡ v = omega (arith, h) in
    ap (λ z. z ∷ ys) same ∙ ap (λ z. v ∷ z) (map_same m ys vs t)

too_low : (m u : ℕ) (us ys : List ℕ) → u < m → map (λ n. m + n) ys ≡ u ∷ us → ⊥
too_low m u us [] lt e = cc e
too_low m u us (y ∷ ys) lt e = let h : m + y ≡ u = cc e in omega (arith, h, lt)

pub joined_same : (m : ℕ) (xs us ys vs : List ℕ) → All (λ n. n < m) xs → All (λ n. n < m) us → joined m xs ys ≡ joined m us vs → (xs ≡ us) × (ys ≡ vs)
joined_same m [] [] ys vs a b e = (refl, map_same m ys vs e)
joined_same m [] (u ∷ us) ys vs a b e = absurd (too_low m u (us ++ map (λ n. m + n) vs) ys (All-head (λ n. n < m) u us b) e)
joined_same m (x ∷ xs) [] ys vs a b e = absurd (too_low m x (xs ++ map (λ n. m + n) ys) vs (All-head (λ n. n < m) x xs a) (sym e))
joined_same m (x ∷ xs) (u ∷ us) ys vs a b e =
    let h : x ≡ u = cc e in
    let t : joined m xs ys ≡ joined m us vs = cc e in
    let r = joined_same m xs us ys vs (All-tail (λ n. n < m) x xs a) (All-tail (λ n. n < m) u us b) t in
    (ap (λ z. z ∷ xs) h ∙ ap (λ z. u ∷ z) r.0, r.1)

-- the pair of lists of one pair of rows more
pub one_listed : (one other : Table) (keys : List ℕ) (n : ℕ) (numbers listed new : List ℕ) (key number : ℕ) → AreListPairs one other keys n numbers listed →
    key ≡ list_pair one other (get_or keys n 0) → AddsKey numbers new key number → AreListPairs one other keys (n + 1) new (listed ++ number ∷ [])
one_listed one other keys n numbers listed new key number all is adds = record {
  many = length_push listed number ∙ ap (λ z. z + 1) all.many;
  few = omega (arith, all.few, longer.1);
  at = at;
  used = used;
  different = adds.different;
}
  where
    longer : (length numbers ≤ length new) × (length new ≤ length numbers + 1)
    longer = ⊎_elim
        (λ (e : new ≡ numbers). (omega (arith, ap length e), omega (arith, ap length e)))
        (λ (e : new ≡ numbers ++ key ∷ []). (omega (arith, ap length e, length-append numbers (key ∷ [])), omega (arith, ap length e, length-append numbers (key ∷ []))))
        adds.grows

    kept : (k : ℕ) → k < length numbers → get_or new k 0 ≡ get_or numbers k 0
    kept k lt = ⊎_elim (λ e. ap (λ z. get_or z k 0) e) (λ e. ap (λ z. get_or z k 0) e ∙ get_or_append_left numbers (key ∷ []) 0 k lt) adds.grows

    before : (row : ℕ) → row < n → get_or (listed ++ number ∷ []) row 0 ≡ get_or listed row 0
    before row lt = get_or_append_left listed (number ∷ []) 0 row (omega (arith, lt, all.many))

    last : (row : ℕ) → n ≡ row → get_or (listed ++ number ∷ []) row 0 ≡ number
    last row e = get_or_push listed number 0 row (all.many ∙ e)

    at : (row : ℕ) → row < n + 1 → (get_or (listed ++ number ∷ []) row 0 < length new) × (get_or new (get_or (listed ++ number ∷ []) row 0) 0 ≡ list_pair one other (get_or keys row 0))
    at row lt =
        ⊎_elim
        (λ (l : row < n).
        let a = all.at row l in (
          omega (arith, a.0, longer.0, before row l),
          ap (λ z. get_or new z 0) (before row l) ∙ kept (get_or listed row 0) a.0 ∙ a.1,
        ))
        (λ (g : n ≤ row).
        let e : n ≡ row = omega (arith, lt, g) in (
          omega (arith, adds.within, last row e),
          ap (λ z. get_or new z 0) (last row e) ∙ adds.at ∙ is ∙ ap (λ z. list_pair one other (get_or keys z 0)) e,
        ))
        (cases_lt row n)

    used : (k : ℕ) → k < length new → (row : ℕ) × (row < n + 1) × (get_or (listed ++ number ∷ []) row 0 ≡ k)
    used k lt =
        ⊎_elim
        (λ (l : k < length numbers). let u = all.used k l in (u.0, omega (arith, u.1), before u.0 u.1 ∙ u.2))
        (λ (g : length numbers ≤ k).
        ⊎_elim
        (λ (e : new ≡ numbers). absurd (omega (arith, lt, g, ap length e)))
        (λ (e : new ≡ numbers ++ key ∷ []).
        let here : length numbers ≡ k = omega (arith, lt, g, ap length e, length-append numbers (key ∷ [])) in
        let same : number ≡ k = adds.different number k adds.within lt (adds.at ∙ sym (ap (λ z. get_or z k 0) e ∙ get_or_push numbers key 0 k here)) in
        (n, omega arith, last n refl ∙ same))
        adds.grows)
        (cases_lt k (length numbers))

-- the numbers are of lists that are there
pub pair_of_lists : (one other : Table) (key : ℕ) → IsTable one → IsTable other → IsPair one other key →
    (first (list_pair one other key) ≡ list_number one (first key)) × (second (list_pair one other key) ≡ list_number other (second key))
pair_of_lists one other key a b is =
    let small : list_number other (second key) < 4294967296 = omega (arith, b.numbered (second key) is.beside, b.few_lists) in
    (first_of (list_number one (first key)) (list_number other (second key)) small, second_of (list_number one (first key)) (list_number other (second key)) small)

pub lists_in : (one other : Table) (keys : List ℕ) (n : ℕ) (numbers listed : List ℕ) → IsTable one → IsTable other → n ≤ length keys → ArePairsIn one other keys →
    AreListPairs one other keys n numbers listed → AreListsIn one other numbers
lists_in one other keys n numbers listed a b le pairs all k lt =
    let u = all.used k lt in
    let is : IsPair one other (get_or keys u.0 0) = pairs u.0 (omega (arith, u.1, le)) in
    let number : get_or numbers k 0 ≡ list_pair one other (get_or keys u.0 0) = sym (ap (λ z. get_or numbers z 0) u.2) ∙ (all.at u.0 u.1).1 in
    let p = pair_of_lists one other (get_or keys u.0 0) a b is in (
      subst (λ z. z < length one.lists) (sym (ap first number ∙ p.0)) (a.numbered (first (get_or keys u.0 0)) is.row),
      subst (λ z. z < length other.lists) (sym (ap second number ∙ p.1)) (b.numbered (second (get_or keys u.0 0)) is.beside),
    )
