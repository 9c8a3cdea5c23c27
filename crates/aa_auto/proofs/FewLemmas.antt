-- An automaton of so many rows has no more texts than that which stand apart.
use Rattle.std.proofs.Common.{◌≡◌, ◌⊎◌, inl, inr, ℕ, zero, suc, ◌+◌, ◌-◌, ◌*◌, ◌<◌, ◌≤◌, List, [], ◌++◌, length, arith, ⊎_elim}
use Rattle.std.specs.Prelude.{slice_index_or}
use Rattle.std.proofs.lemmas.Bool.{cases_lt}
use Rattle.std.proofs.Math.Nat.{mul_comm}
use Rattle.std.proofs.lemmas.List.Elements.{All-get_or}
use Rattle.aa_pattern.specs.declared.pattern.Pattern.{Pattern}
use Rattle.aa_auto.specs.Tables.{Table, IsText, IsAutomaton, HasPlaces, rows_of, place_of}
use Rattle.aa_auto.proofs.CellLemmas.{cell_below, cell_unique}
use Rattle.aa_auto.proofs.JoinLemmas.{SamePlaces-append}

-- a number of those that are left where one is taken out
abbrev without : (v x : ℕ) → (v < x) ⊎ (x ≤ v) → ℕ
without v x (inl more) = x - 1
without v x (inr less) = x

still_below : (v x m : ℕ) (c : (v < x) ⊎ (x ≤ v)) → x < m → v < m → (x ≡ v → ⊥) → without v x c < m - 1
still_below v x m (inl more) lx lv ne = omega arith
still_below v x m (inr less) lx lv ne = ⊎_elim (λ (h : x < v). omega arith) (λ (h : v ≤ x). let e : x ≡ v = omega arith in absurd (ne e)) (cases_lt x v)

still_apart : (v x y : ℕ) (c : (v < x) ⊎ (x ≤ v)) (d : (v < y) ⊎ (y ≤ v)) → (x ≡ v → ⊥) → (y ≡ v → ⊥) → without v x c ≡ without v y d → x ≡ y
still_apart v x y (inl c) (inl d) n m e = omega arith
still_apart v x y (inr c) (inr d) n m e = e
still_apart v x y (inl c) (inr d) n m e = let f : y ≡ v = omega arith in absurd (m f)
still_apart v x y (inr c) (inl d) n m e = let f : x ≡ v = omega arith in absurd (n f)

-- so many numbers below another are no more than that
no_more : (n m : ℕ) (f : ℕ → ℕ) → ((i : ℕ) → i < n → f i < m) → ((i j : ℕ) → i < n → j < n → f i ≡ f j → i ≡ j) → n ≤ m
no_more zero m f below apart = omega arith
no_more (suc n) m f below apart =
    let v = f n in
    let last : n < suc n = omega arith in
    let lv : v < m = below n last in
    let other : (i : ℕ) → i < n → f i ≡ v → ⊥ = λ i lt e. let here : i < suc n = omega arith in let same : i ≡ n = apart i n here last e in omega arith in
    let rest : n ≤ m - 1 =
    no_more n (m - 1) (λ i. without v (f i) (cases_lt v (f i)))
    (λ i lt. let here : i < suc n = omega arith in still_below v (f i) m (cases_lt v (f i)) (below i here) lv (other i lt))
    (λ i j li lj e.
    let a : i < suc n = omega arith in
    let b : j < suc n = omega arith in
    apart i j a b (still_apart v (f i) (f j) (cases_lt v (f i)) (cases_lt v (f j)) (other i li) (other j lj) e)) in
    omega arith

pub few_rows : (ps : List Pattern) (t : Table) (limit : ℕ) → IsAutomaton ps t → rows_of t ≤ limit → HasPlaces ps (limit + 1) → ⊥
few_rows ps t limit a within h =
    let at : ℕ → List ℕ = λ i. slice_index_or h.texts i [] in
    let bytes : (i : ℕ) → i < limit + 1 → IsText (at i) = λ i lt. let within : i < length h.texts = omega (arith, h.many) in All-get_or IsText h.texts i [] within h.bytes in
    let few : limit + 1 ≤ rows_of t =
    no_more (limit + 1) (rows_of t) (λ i. place_of t (at i)) (λ i lt. a.within (at i) (bytes i lt))
    (λ i j li lj e. h.apart i j li lj ((a.places (at i) (at j) (bytes i li) (bytes j lj)).0 e)) in
    omega (arith, within)

-- the places of patterns stay apart beside others
pub places_left : (ps qs : List Pattern) (n : ℕ) → HasPlaces ps n → HasPlaces (ps ++ qs) n
places_left ps qs n h = record {
  texts = h.texts;
  many = h.many;
  bytes = h.bytes;
  apart = λ i j li lj same. h.apart i j li lj ((SamePlaces-append ps qs (slice_index_or h.texts i []) (slice_index_or h.texts j [])).0 same).0;
}

pub places_right : (ps qs : List Pattern) (n : ℕ) → HasPlaces qs n → HasPlaces (ps ++ qs) n
places_right ps qs n h = record {
  texts = h.texts;
  many = h.many;
  bytes = h.bytes;
  apart = λ i j li lj same. h.apart i j li lj ((SamePlaces-append ps qs (slice_index_or h.texts i []) (slice_index_or h.texts j [])).0 same).1;
}

-- no more texts stand apart by the patterns of two automata than there are pairs of rows
pub few_pairs : (ps qs : List Pattern) (one other : Table) (limit : ℕ) → IsAutomaton ps one → IsAutomaton qs other → rows_of one * rows_of other ≤ limit → HasPlaces (ps ++ qs) (limit + 1) → ⊥
few_pairs ps qs one other limit a b few h =
    let at : ℕ → List ℕ = λ i. slice_index_or h.texts i [] in
    let bytes : (i : ℕ) → i < limit + 1 → IsText (at i) = λ i lt. let within : i < length h.texts = omega (arith, h.many) in All-get_or IsText h.texts i [] within h.bytes in
    let w = rows_of other in
    let pairs : limit + 1 ≤ w * rows_of one =
    no_more (limit + 1) (w * rows_of one) (λ i. w * place_of one (at i) + place_of other (at i))
    (λ i lt. cell_below w (place_of one (at i)) (rows_of one) (place_of other (at i)) (a.within (at i) (bytes i lt)) (b.within (at i) (bytes i lt)))
    (λ i j li lj e.
    let same = cell_unique w (place_of one (at i)) (place_of one (at j)) (place_of other (at i)) (place_of other (at j)) (b.within (at i) (bytes i li)) (b.within (at j) (bytes j lj)) e in
    h.apart i j li lj
    ((SamePlaces-append ps qs (at i) (at j)).1 ((a.places (at i) (at j) (bytes i li) (bytes j lj)).0 same.0, (b.places (at i) (at j) (bytes i li) (bytes j lj)).0 same.1))) in
    let same : rows_of one * rows_of other ≡ w * rows_of one = mul_comm (rows_of one) (rows_of other) in
    omega (arith, few, pairs, same)
