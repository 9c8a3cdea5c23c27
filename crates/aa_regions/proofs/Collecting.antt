-- The regions of the steps are those of the patterns.
use Rattle.std.proofs.Common.{◌≡◌, ℕ, ◌+◌, ◌<◌, ◌≤◌, List, [], ◌∷◌, ◌++◌, Bool, true, false, true≢false, Some, length, map, get_or, slice_get, set, Fits, w8}
use Rattle.std.proofs.Common.{All, Contains, refl, sym, ap, ◌∙◌, subst, arith, ⊎_elim}
use Rattle.std.proofs.lemmas.Bool.{cases_eq, cases_lt}
use Rattle.std.proofs.lemmas.Option.{slice_get-get_or}
use Rattle.std.proofs.lemmas.List.{length-set, length_push, length-map, get_or-set_same, get_or-set_other, get_or_append_left, get_or_push, get_or_default, get_or-map, map_push}
use Rattle.std.proofs.lemmas.List.Elements.{All-append, All-nil, All-from_get_or, All-weaker, Contains-get_or, Contains-push, Contains-push_cases, Contains-append_left}
use Rattle.aa_pattern.specs.declared.pattern.Pattern.{Pattern}
use Rattle.aa_auto.specs.Apart.{IsApart}
use Rattle.aa_pattern.specs.Globs.{Matches}
use Rattle.aa_auto.specs.Pairs.{IsNarrowed}
use Rattle.aa_auto.specs.Tables.{Table, IsText, IsAutomaton, ListsMatching, place_of, list_at, list_number}
use Rattle.aa_auto.proofs.SortedLemmas.{same_rising}
use Rattle.aa_regions.specs.declared.steps.Step.{Step}
use Rattle.aa_regions.specs.declared.regions.Region.{Region}
use Rattle.aa_regions.specs.Wanted.{IsWanted, IsFrom}
use Rattle.aa_regions.specs.Steps.{step_at, text_at, IsRising, IsTrail, AreSpelled, AreEarlier, AreNumbered, ReachAll}
use Rattle.aa_regions.specs.Regions.{IsRegion, AreRegions, AreTextRegions, IsTaken, IsTakenOf, AreCollected}
use Rattle.aa_regions.specs.Automata.{HasLists, HaveShort, AreRegionsBy}

abbrev pub numbers_of : Region → List ℕ
numbers_of r = r.numbers

pub stay_taken : (taken : List Bool) (n : ℕ) → n < length taken → (k : ℕ) → IsTaken taken k → IsTaken (set taken n true) k
stay_taken taken n lt k e =
    ⊎_elim
    (λ (q : k ≡ n). subst (λ i. get_or (set taken n true) i false ≡ true) (sym q) (get_or-set_same taken n true false lt))
    (λ (ne : k ≡ n → ⊥). get_or-set_other taken n k true false ne ∙ e)
    (cases_eq k n)

-- lists that differ from the last
apart_push : (xs : List (List ℕ)) (x : List ℕ) → IsApart xs → ((y : List ℕ) → Contains xs y → y ≡ x → ⊥) → IsApart (xs ++ x ∷ [])
apart_push xs x apart other i j li lj e =
    let many = length_push xs x in
    let last : get_or (xs ++ x ∷ []) (length xs) [] ≡ x = get_or_push xs x [] (length xs) refl in
    let old : (k : ℕ) → k < length xs → get_or (xs ++ x ∷ []) k [] ≡ get_or xs k [] = λ k l. get_or_append_left xs (x ∷ []) [] k l in
    let apart_last : (k : ℕ) → k < length xs → get_or (xs ++ x ∷ []) k [] ≡ get_or (xs ++ x ∷ []) (length xs) [] → ⊥ =
    λ k l f. other (get_or xs k []) (k, l, get_or_here xs k l) (sym (old k l) ∙ f ∙ last) in
    ⊎_elim
    (λ (a : i < length xs).
    ⊎_elim
    (λ (b : j < length xs). apart i j a b (sym (old i a) ∙ e ∙ old j b))
    (λ (b : length xs ≤ j).
    let q : j ≡ length xs = omega (arith, b, lj, many) in
    absurd (apart_last i a (subst (λ n. get_or (xs ++ x ∷ []) i [] ≡ get_or (xs ++ x ∷ []) n []) q e)))
    (cases_lt j (length xs)))
    (λ (a : length xs ≤ i).
    ⊎_elim
    (λ (b : j < length xs).
    let q : i ≡ length xs = omega (arith, a, li, many) in
    absurd (apart_last j b (sym (subst (λ n. get_or (xs ++ x ∷ []) n [] ≡ get_or (xs ++ x ∷ []) j []) q e))))
    (λ (b : length xs ≤ j). omega (arith, a, b, li, lj, many))
    (cases_lt j (length xs)))
    (cases_lt i (length xs))
  where
    get_or_here : (ys : List (List ℕ)) (k : ℕ) → k < length ys → get_or ys k (get_or ys k []) ≡ get_or ys k []
    get_or_here ys k l = get_or_default ys k (get_or ys k []) [] l

module _ (t : Table) (head : List ℕ) (steps : List Step) (apart : IsApart t.lists)
    (numbered : (i : ℕ) → i < length steps → list_number t (step_at steps i).row < length t.lists)
    (n : ℕ) (lt : n < length steps) (rising : IsRising steps) (taken : List Bool) (rs : List Region) (c : AreCollected t head steps n taken rs) where
  abbrev list : ℕ
  list = list_number t (step_at steps n).row

  -- a region that is there
  pub collected_same : get_or taken list false ≡ true → AreCollected t head steps (n + 1) taken rs
  collected_same e = record {
    many = c.many;
    each = λ r in'. let f = c.each r in' in (f.0, omega (arith, f.1), f.2, f.3);
    all = c.all;
    marked = λ k l.
        ⊎_elim
        (λ (a : k < n). c.marked k a)
        (λ (a : n ≤ k). let q : n ≡ k = omega (arith, a, l) in subst (λ i. IsTaken taken (list_number t (step_at steps i).row)) q e)
        (cases_lt k n);
    apart = c.apart;
  }

  module _ (fresh : get_or taken list false ≡ false) (r : Region) (numbers : r.numbers ≡ get_or t.lists list [])
      (text : (texts : List (List ℕ)) → AreSpelled head steps texts → r.witness ≡ text_at texts n) where
    inside : list < length taken
    inside = omega (arith, numbered n lt, c.many)

    here_taken : IsTaken (set taken list true) list
    here_taken = get_or-set_same taken list true false inside

    of : IsTakenOf t head steps n r
    of = record {
      within = lt;
      numbers = numbers;
      text = text;
      first = λ j lj e.
          ⊎_elim
          (λ (a : j < n). absurd (true≢false (sym (subst (IsTaken taken) e (c.marked j a)) ∙ fresh)))
          (λ (a : n ≤ j). rising n j a lj)
          (cases_lt j n);
    }

    pub collected_more : AreCollected t head steps (n + 1) (set taken list true) (rs ++ r ∷ [])
    collected_more = record {
      many = length-set taken list true ∙ c.many;
      each = λ q in'.
          ⊎_elim
          (λ (old : Contains rs q).
          let f = c.each q old in
          (f.0, omega (arith, f.1), stay_taken taken list inside (list_number t (step_at steps f.0).row) f.2, f.3))
          (λ (e : r ≡ q). (n, omega arith, here_taken, subst (IsTakenOf t head steps n) e of))
          (Contains-push_cases rs r q in');
      all = λ l e.
          ⊎_elim
          (λ (q : l ≡ list). (r, Contains-push rs r, numbers ∙ ap (λ i. get_or t.lists i []) (sym q)))
          (λ (ne : l ≡ list → ⊥).
          let f = c.all l (sym (get_or-set_other taken list l true false ne) ∙ e) in
          (f.0, Contains-append_left rs (r ∷ []) f.0 f.1, f.2))
          (cases_eq l list);
      marked = λ k l.
          ⊎_elim
          (λ (a : k < n). stay_taken taken list inside (list_number t (step_at steps k).row) (c.marked k a))
          (λ (a : n ≤ k).
          let q : n ≡ k = omega (arith, a, l) in
          subst (λ i. IsTaken (set taken list true) (list_number t (step_at steps i).row)) q here_taken)
          (cases_lt k n);
      apart = subst IsApart (sym (map_push numbers_of rs r))
          (apart_push (map numbers_of rs) r.numbers c.apart (λ y in' e.
          let i = in'.0 in
          let li : i < length rs = omega (arith, in'.1, length-map rs numbers_of) in
          let q = get_or rs i r in
          let f = c.each q (Contains-get_or rs i r li) in
          let same : q.numbers ≡ y = sym (get_or-map numbers_of rs i r y li) ∙ in'.2 in
          let lists : get_or t.lists (list_number t (step_at steps f.0).row) [] ≡ get_or t.lists list [] = sym f.3.numbers ∙ same ∙ e ∙ numbers in
          let lk : f.0 < length steps = omega (arith, f.1, lt) in
          let number : list_number t (step_at steps f.0).row ≡ list =
          apart (list_number t (step_at steps f.0).row) list (numbered f.0 lk) (numbered n lt) lists in
          true≢false (sym (subst (IsTaken taken) number f.2) ∙ fresh)));
    }

pub wanted_text : (head : List ℕ) (low max : ℕ) (s : List ℕ) → IsText head → IsWanted head low max s → IsText s
wanted_text head low max s of w =
    subst IsText (sym w.whole) (All-append (λ b. b < 256) head w.rest of (All-weaker (IsFrom low) (λ b. b < 256) (λ b h. h.1) w.rest w.bytes))

slice_get-last : (ps : List Pattern) (q : Pattern) → slice_get (ps ++ q ∷ []) (length ps) ≡ Some q
slice_get-last ps q = slice_get-get_or (ps ++ q ∷ []) (length ps) q (omega (arith, length_push ps q)) ∙ ap Some (get_or_push ps q q (length ps) refl)

-- a slice of bytes is a text
pub text_of : (s : List ℕ) → ((i : ℕ) → Fits w8 (get_or s i 0)) → IsText s
text_of s fits = All-from_get_or (λ b. b < 256) s 0 (λ i lt. let f = fits i in omega (arith, f.fits))

-- each row of the steps has a list
pub trail_numbered : (t : Table) → HasLists t → (head : List ℕ) (low max : ℕ) → IsText head
    → (seen : List Bool) (steps : List Step) → IsTrail t head low max seen steps → AreNumbered t steps
trail_numbered t lists head low max bytes seen steps trail i lt =
    let at = trail.each i lt in
    subst (λ row. list_number t row < length t.lists) at.place
    (lists.numbered (text_at trail.texts i) (wanted_text head low max (text_at trail.texts i) bytes at.wanted))

-- a step's texts are spelled so
pub trail_spelled : (t : Table) (head : List ℕ) (low max : ℕ) (seen : List Bool) (steps : List Step) (trail : IsTrail t head low max seen steps)
    → AreSpelled head steps trail.texts
trail_spelled t head low max seen steps trail i lt = (trail.each i lt).spelled

pub trail_earlier : (t : Table) (head : List ℕ) (low max : ℕ) (seen : List Bool) (steps : List Step) → IsTrail t head low max seen steps
    → AreEarlier steps
trail_earlier t head low max seen steps trail i some lt =
    ⊎_elim
    (λ (p : (i ≡ 0) × (text_at trail.texts i ≡ head)). absurd (omega (arith, p.0, some)))
    (λ (p : ((step_at steps i).from < i) × (text_at trail.texts i ≡ text_at trail.texts (step_at steps i).from ++ (step_at steps i).byte ∷ [])). p.0)
    (trail.each i lt).spelled

module _ (t : Table) (head : List ℕ) (low max : ℕ) (seen : List Bool) (steps : List Step) (trail : IsTrail t head low max seen steps)
    (reach : ReachAll t head low max steps) (taken : List Bool) (rs : List Region) (c : AreCollected t head steps (length steps) taken rs) where
  -- of a region the step, its text and its row
  text_is : (r : Region) (in' : Contains rs r) → r.witness ≡ text_at trail.texts (c.each r in').0
  text_is r in' = (c.each r in').3.text trail.texts (trail_spelled t head low max seen steps trail)

  wanted : (r : Region) → Contains rs r → IsWanted head low max r.witness
  wanted r in' = let of = (c.each r in').3 in subst (IsWanted head low max) (sym (text_is r in')) (trail.each (c.each r in').0 of.within).wanted

  place_is : (r : Region) (in' : Contains rs r) → place_of t r.witness ≡ (step_at steps (c.each r in').0).row
  place_is r in' = let of = (c.each r in').3 in ap (place_of t) (text_is r in') ∙ (trail.each (c.each r in').0 of.within).place

  pub regions_by : AreRegionsBy t head low max rs
  regions_by = record {
    wanted = wanted;
    lists = λ r in'. ap (list_at t) (place_is r in') ∙ sym (c.each r in').3.numbers;
    shortest = λ r in' s w number.
        let of = (c.each r in').3 in
        let j = reach s w in
        let rows : list_number t (step_at steps j.0).row ≡ list_number t (step_at steps (c.each r in').0).row =
        ap (list_number t) j.2 ∙ number ∙ ap (list_number t) (place_is r in') in
        omega (arith, of.first j.0 j.1 rows, j.3, ap length (text_is r in'), (trail.each (c.each r in').0 of.within).long);
    all = λ s w.
        let j = reach s w in
        let f = c.all (list_number t (step_at steps j.0).row) (c.marked j.0 j.1) in
        (f.0, f.1, ap (list_at t) (sym j.2) ∙ sym f.2);
    apart = c.apart;
  }

-- where two lists say exactly which patterns match a text, they are the same
same_lists : (ps : List Pattern) (s xs ys : List ℕ) → ListsMatching ps s xs → ListsMatching ps s ys → xs ≡ ys
same_lists ps s xs ys m l = same_rising xs ys m.rising l.rising (λ n x. (l.exact n).1 ((m.exact n).0 x)) (λ n x. (m.exact n).1 ((l.exact n).0 x))

-- a region of texts whose lists are those of the patterns
region_is : (ps : List Pattern) (t : Table) (head : List ℕ) (low max : ℕ) (rs : List Region) → IsText head → HasLists t → AreRegionsBy t head low max rs → (r : Region) → Contains rs r →
    ListsMatching ps r.witness (list_at t (place_of t r.witness)) → ((s : List ℕ) → IsText s → ListsMatching ps s r.numbers → ListsMatching ps s (list_at t (place_of t s))) →
    IsRegion ps head low max r
region_is ps t head low max rs bytes has by r in' lists each = record {
  wanted = by.wanted r in';
  lists = subst (ListsMatching ps r.witness) (by.lists r in') lists;
  shortest = λ s w l.
      let text = wanted_text head low max s bytes w in
      by.shortest r in' s w
      (has.apart (list_number t (place_of t s)) (list_number t (place_of t r.witness)) (has.numbered s text) (has.numbered r.witness (wanted_text head low max r.witness bytes (by.wanted r in')))
      (same_lists ps s (list_at t (place_of t s)) r.numbers (each s text l) l ∙ sym (by.lists r in')));
}

pub automaton_lists : (ps : List Pattern) (t : Table) → IsAutomaton ps t → HasLists t
automaton_lists ps t a = record { numbered = a.numbered; apart = a.apart }

pub narrowed_lists : (ps : List Pattern) (q : Pattern) (t : Table) → IsNarrowed ps q t → HasLists t
narrowed_lists ps q t n = record { numbered = n.numbered; apart = n.apart }

pub are_regions : (ps : List Pattern) (t : Table) (head : List ℕ) (low max : ℕ) (rs : List Region) → IsText head → IsAutomaton ps t → AreRegionsBy t head low max rs → AreRegions ps head low max rs
are_regions ps t head low max rs bytes a by = record {
  each = λ r in'. region_is ps t head low max rs bytes (automaton_lists ps t a) by r in' (a.matching r.witness (wanted_text head low max r.witness bytes (by.wanted r in'))) (λ s text l. a.matching s text);
  all = λ s w. let f = by.all s w in (f.0, f.1, subst (ListsMatching ps s) f.2 (a.matching s (wanted_text head low max s bytes w)));
  apart = by.apart;
}

module _ (ps : List Pattern) (t : Table) (max : ℕ) (rs : List Region) (a : IsAutomaton ps t) (by : AreRegionsBy t [] 0 max rs) (short : HaveShort t [] 0 max) where
  any_text : (s : List ℕ) → IsText s → All (IsFrom 0) s
  any_text s text = All-weaker (λ b. b < 256) (IsFrom 0) (λ b lt. (omega arith, lt)) s text

  text : (r : Region) → Contains rs r → IsText r.witness
  text r in' = wanted_text [] 0 max r.witness (All-nil (λ b. b < 256)) (by.wanted r in')

  listed : (r : Region) (in' : Contains rs r) → ListsMatching ps r.witness r.numbers
  listed r in' = subst (ListsMatching ps r.witness) (by.lists r in') (a.matching r.witness (text r in'))

  -- a text that isn't too long is a wanted one
  shortest : (r : Region) → Contains rs r → (s : List ℕ) → IsText s → ListsMatching ps s r.numbers → length r.witness ≤ length s
  shortest r in' s of l =
      ⊎_elim
      (λ (long : max < length s). omega (arith, long, (by.wanted r in').short))
      (λ (le : length s ≤ max). (region_is ps t [] 0 max rs (All-nil (λ b. b < 256)) (automaton_lists ps t a) by r in' (a.matching r.witness (text r in')) (λ u bytes m. a.matching u bytes)).shortest s
      (record { rest = s; whole = refl; bytes = any_text s of; short = le }) l)
      (cases_lt max (length s))

  pub text_regions : AreTextRegions ps rs
  text_regions = record {
    each = λ r in'. record { text = text r in'; lists = listed r in'; shortest = shortest r in' };
    all = λ s of.
        let u = short s (any_text s of) in
        let f = by.all u.0 u.1 in
        (f.0, f.1, subst (ListsMatching ps s) (ap (list_at t) (sym u.2) ∙ f.2) (a.matching s of));
    apart = by.apart;
  }

-- the last pattern is listed just where it matches
pub last_in : (ps : List Pattern) (q : Pattern) (s numbers : List ℕ) → ListsMatching (ps ++ q ∷ []) s numbers → Matches q.items.items s → Contains numbers (length ps)
last_in ps q s numbers l m = (l.exact (length ps)).1 (q, slice_get-last ps q, m)

pub last_of : (ps : List Pattern) (q : Pattern) (s numbers : List ℕ) → ListsMatching (ps ++ q ∷ []) s numbers → Contains numbers (length ps) → Matches q.items.items s
last_of ps q s numbers l c =
    let m = (l.exact (length ps)).0 c in
    let same : m.0 ≡ q = cc (sym m.1 ∙ slice_get-last ps q) in
    subst (λ (z : Pattern). Matches z.items.items s) same m.2

pub within_regions : (ps : List Pattern) (q : Pattern) (t : Table) (head : List ℕ) (low max : ℕ) (rs : List Region) → IsText head → IsNarrowed ps q t → AreRegionsBy t head low max rs →
    ((r : Region) → Contains rs r → Matches q.items.items r.witness → IsRegion (ps ++ q ∷ []) head low max r)
    × ((s : List ℕ) → IsWanted head low max s → Matches q.items.items s → (r : Region) × Contains rs r × Matches q.items.items r.witness × ListsMatching (ps ++ q ∷ []) s r.numbers)
within_regions ps q t head low max rs bytes n by = (
  λ r in' m.
      let lists = n.matching r.witness (text r in') m in
      let has : Contains r.numbers (length ps) = subst (λ z. Contains z (length ps)) (by.lists r in') (last_in ps q r.witness (list_at t (place_of t r.witness)) lists m) in
      region_is (ps ++ q ∷ []) t head low max rs bytes (narrowed_lists ps q t n) by r in' lists (λ s of l. n.matching s of (last_of ps q s r.numbers l has)),
  λ s w m.
      let of = wanted_text head low max s bytes w in
      let f = by.all s w in
      let lists = n.matching s of m in
      let has : Contains (list_at t (place_of t f.0.witness)) (length ps) =
      subst (λ z. Contains z (length ps)) (f.2 ∙ sym (by.lists f.0 f.1)) (last_in ps q s (list_at t (place_of t s)) lists m) in
      (f.0, f.1, n.matched f.0.witness (text f.0 f.1) has, subst (ListsMatching (ps ++ q ∷ []) s) f.2 lists),
)
  where
    text : (r : Region) → Contains rs r → IsText r.witness
    text r in' = wanted_text head low max r.witness bytes (by.wanted r in')
