-- The pairs that were found make an automaton.
use Rattle.std.proofs.Common.{◌≡◌, ◌↔◌, ℕ, zero, suc, ◌+◌, ◌*◌, ◌<◌, ◌≤◌, Option, Some, None, List, [], ◌∷◌, ◌++◌, length, map, get_or, slice_get, All, Contains}
use Rattle.std.proofs.Common.{refl, sym, ap, ◌∙◌, subst, ⊎_elim, arith, append_assoc}
use Rattle.std.proofs.lemmas.Bool.{cases_lt}
use Rattle.std.proofs.lemmas.List.{append-nil, get_or-map, length-map}
use Rattle.std.proofs.lemmas.List.Elements.{All-nil, All-push, All-head, All-tail, Contains-append_cases}
use Rattle.aa_pattern.specs.Limits.{most_states}
use Rattle.aa_pattern.specs.declared.pattern.Pattern.{Pattern}
use Rattle.aa_pattern.specs.Globs.{Matches}
use Rattle.aa_auto.specs.Apart.{IsApart}
use Rattle.aa_auto.specs.Division.{Divides}
use Rattle.aa_auto.specs.Tables.{Table, IsTable, IsText, IsAutomaton, HasClasses, HasPlaces, ListsMatching, rows_of, row_after, place_of, list_number, list_at}
use Rattle.aa_auto.specs.Pairs.{pair, first, second, pair_of, pair_after, class_pair, list_pair, list_of_pair, joined, settled}
use Rattle.aa_auto.specs.Pairs.{AreSides, IsDead, ArePairs, ArePairsIn, AreListsIn, AreListPairs, HasPairs, IsProduct, IsBuilt, IsNarrowed, TellsBytes}
use Rattle.aa_auto.proofs.CellLemmas.{cell_below}
use Rattle.aa_auto.proofs.ExploredLemmas.{listed, length-listed, get_or-listed}
use Rattle.aa_auto.proofs.AutomatonLemmas.{row_after-append}
use Rattle.aa_auto.proofs.PairLemmas.{first_of, second_of, pairs_same, classes_same, after_alike, pair_on, key_in, pair_in, is_live, settled_second, within_place, small_row}
use Rattle.aa_auto.proofs.JoinLemmas.{SamePlaces-append, IsSame-append, lists-append, lists_below, moved_in, joined_same, pair_of_lists, lists_in}

module _ (dead : Option ℕ) (one other : Table) (sides : AreSides dead one other) (ckeys of bytes keys cells : List ℕ) (each : (b : ℕ) → b < 256 → get_or ckeys b 0 ≡ class_pair one other b)
    (divided : Divides ckeys 256 of bytes) (all : ArePairs dead one other keys bytes cells) where
  small : (b : ℕ) → b < 256 → get_or other.classes b 0 < 256
  small b lt = omega (arith, sides.second_is.classed b lt, sides.second_is.few)

  -- bytes of one class are of one class in both
  same_class : (a b : ℕ) → a < 256 → b < 256 → get_or ckeys a 0 ≡ get_or ckeys b 0 → (get_or one.classes a 0 ≡ get_or one.classes b 0) × (get_or other.classes a 0 ≡ get_or other.classes b 0)
  same_class a b la lb e = classes_same one other a b (small a la) (small b lb) (sym (each a la) ∙ e ∙ each b lb)

  pub classed : (a b : ℕ) → a < 256 → b < 256 → (get_or of a 0 ≡ get_or of b 0) ↔ ((get_or one.classes a 0 ≡ get_or one.classes b 0) × (get_or other.classes a 0 ≡ get_or other.classes b 0))
  classed a b la lb = (
    λ e. same_class a b la lb (sym (divided.classed a la).1 ∙ ap (λ z. get_or ckeys (get_or bytes z 0) 0) e ∙ (divided.classed b lb).1),
    λ e.
        let same : get_or ckeys a 0 ≡ get_or ckeys b 0 = each a la ∙ ap (λ z. 256 * z + get_or other.classes a 0) e.0 ∙ ap (λ z. 256 * get_or one.classes b 0 + z) e.1 ∙ sym (each b lb) in
        divided.apart (get_or of a 0) (get_or of b 0) (divided.classed a la).0 (divided.classed b lb).0 ((divided.classed a la).1 ∙ same ∙ sym (divided.classed b lb).1),
  )

  cell : (row b : ℕ) → row < length keys → b < 256 → (get_or cells (length bytes * row + get_or of b 0) 0 < length keys)
      × (get_or keys (get_or cells (length bytes * row + get_or of b 0) 0) 0 ≡ pair_after dead one other (get_or keys row 0) b)
  cell row b lt few =
      let class = (divided.classed b few).0 in
      let goes = all.filled row (get_or of b 0) class (subst (λ n. length bytes * row + get_or of b 0 < n) (sym all.whole) (cell_below (length bytes) row (length keys) (get_or of b 0) lt class)) in
      let r = get_or bytes (get_or of b 0) 0 in
      let same = same_class r b (divided.named (get_or of b 0) class).0 few (divided.classed b few).1 in
      (goes.within, goes.step ∙ after_alike dead one other (get_or keys row 0) r b same.0 same.1)

  abbrev made : List ℕ → List (List ℕ) → Table
  made listed lists = record { classes = of; width = length bytes; cells = cells; listed = listed; lists = lists }

  leads_from : (numbers : List ℕ) (lists : List (List ℕ)) (s : List ℕ) → IsText s → (row : ℕ) (front : List ℕ) → IsText front → row < length keys → get_or keys row 0 ≡ pair_of dead one other front →
      (row_after (made numbers lists) row s < length keys) × (get_or keys (row_after (made numbers lists) row s) 0 ≡ pair_of dead one other (front ++ s))
  leads_from numbers lists [] text row front before lt is = (lt, is ∙ ap (pair_of dead one other) (sym (append-nil front)))
  leads_from numbers lists (b ∷ s) text row front before lt is =
      let few : b < 256 = All-head (λ b. b < 256) b s text in
      let goes = cell row b lt few in
      let rest = leads_from numbers lists s (All-tail (λ b. b < 256) b s text) (get_or cells (length bytes * row + get_or of b 0) 0) (front ++ b ∷ []) (All-push (λ b. b < 256) front b before few) goes.0
      (goes.1 ∙ ap (λ z. pair_after dead one other z b) is ∙ sym (pair_on dead one other sides front b before few)) in
      (rest.0, rest.1 ∙ ap (pair_of dead one other) (append_assoc front (b ∷ []) s))

  leads : (numbers : List ℕ) (lists : List (List ℕ)) (s : List ℕ) → IsText s →
      (place_of (made numbers lists) s < length keys) × (get_or keys (place_of (made numbers lists) s) 0 ≡ pair_of dead one other s)
  leads numbers lists s text = leads_from numbers lists s text 0 [] (All-nil (λ b. b < 256)) all.met.some all.met.start

  pub pairs_in : ArePairsIn one other keys
  pairs_in row lt = key_in dead one other sides keys all.met row lt

  table : (numbers listed : List ℕ) (lists : List (List ℕ)) → AreListPairs one other keys (length keys) numbers listed → length lists ≡ length numbers → length keys ≤ most_states → IsTable (made listed lists)
  table numbers listed lists pairs many few = record {
    some = omega (arith, all.met.some, pairs.many);
    few_rows = omega (arith, few, pairs.many);
    few_lists = omega (arith, few, many, pairs.few);
    wide = omega (arith, (divided.classed 0 (omega arith)).0);
    few = divided.few;
    bytes = divided.many;
    classed = λ b lt. (divided.classed b lt).0;
    whole = all.whole ∙ ap (λ n. length bytes * n) (sym pairs.many);
    within = λ row class lt lt_class.
        let l : row < length keys = omega (arith, lt, pairs.many) in
        omega (arith, (all.filled row class lt_class (subst (λ n. length bytes * row + class < n) (sym all.whole) (cell_below (length bytes) row (length keys) class l lt_class))).within, pairs.many);
    numbered = λ row lt. omega (arith, (pairs.at row (omega (arith, lt, pairs.many))).0, many);
  }

  product : (moved : ℕ) (numbers listed : List ℕ) (lists : List (List ℕ)) → AreListPairs one other keys (length keys) numbers listed → lists ≡ map (list_of_pair moved one other) numbers →
      IsProduct dead moved one other (made listed lists)
  product moved numbers listed lists pairs is = record {
    keys = keys;
    met = all.met;
    many = pairs.many;
    leads = leads listed lists;
    classed = classed;
    bytes = bytes;
    every = refl;
    named = divided.named;
    small = λ b lt. (divided.classed b lt).0;
    numbers = numbers;
    listed = pairs;
    lists = is;
  }

abbrev table_by : List ℕ → ℕ → List ℕ → List ℕ → List (List ℕ) → Table
table_by of w cells listed lists = record { classes = of; width = w; cells = cells; listed = listed; lists = lists }

-- the same where the parts were copied
pub made_product : (dead : Option ℕ) (one other : Table) (sides : AreSides dead one other) (ckeys of bytes keys cells : List ℕ) → ((b : ℕ) → b < 256 → get_or ckeys b 0 ≡ class_pair one other b) →
    Divides ckeys 256 of bytes → ArePairs dead one other keys bytes cells → (moved : ℕ) (numbers listed : List ℕ) (lists : List (List ℕ)) → AreListPairs one other keys (length keys) numbers listed →
    lists ≡ map (list_of_pair moved one other) numbers → length keys ≤ most_states → (width : ℕ) (kept : List ℕ) → width ≡ length bytes → kept ≡ cells →
    IsTable (table_by of width kept listed lists) × IsProduct dead moved one other (table_by of width kept listed lists)
made_product dead one other sides ckeys of bytes keys cells each divided all moved numbers listed lists pairs is few width kept e f =
    let same : table_by of (length bytes) cells listed lists ≡ table_by of width kept listed lists = ap (λ z. table_by of z cells listed lists) (sym e) ∙ ap (λ z. table_by of width z listed lists) (sym f) in
    let many : length lists ≡ length numbers = ap length is ∙ length-map numbers (list_of_pair moved one other) in (
      subst IsTable same (table dead one other sides ckeys of bytes keys cells each divided all numbers listed lists pairs many few),
      subst (IsProduct dead moved one other) same (product dead one other sides ckeys of bytes keys cells each divided all moved numbers listed lists pairs is),
    )

-- as many texts as there are pairs
pub pairs_places : (dead : Option ℕ) (one other : Table) (n : ℕ) → HasPairs dead one other n → (ps qs : List Pattern) → IsBuilt ps one → IsBuilt qs other → HasPlaces (ps ++ qs) n
pairs_places dead one other n has ps qs a b = record {
  texts = listed text n;
  many = length-listed text n;
  bytes = bytes n (omega arith);
  apart = λ i j li lj same.
      let both = (SamePlaces-append ps qs (get_or (listed text n) i []) (get_or (listed text n) j [])).0 same in
      let x = is_pair i li in
      let y = is_pair j lj in
      has.met.different i j (omega (arith, li, has.many)) (omega (arith, lj, has.many))
      (sym x.1
      ∙ ap (λ z. settled dead z (place_of other (get_or (listed text n) i []))) ((a.automaton.places (get_or (listed text n) i []) (get_or (listed text n) j []) x.0 y.0).1 both.0)
      ∙ ap (settled dead (place_of one (get_or (listed text n) j []))) ((b.automaton.places (get_or (listed text n) i []) (get_or (listed text n) j []) x.0 y.0).1 both.1)
      ∙ y.1);
}
  where
    pick : (k : ℕ) → (s : List ℕ) × (k < n → IsText s × (pair_of dead one other s ≡ get_or has.keys k 0))
    pick k = ⊎_elim (λ lt. let r = has.met.reached k (omega (arith, lt, has.many)) in (r.0, λ _. (r.1, r.2))) (λ ge. ([], λ (lt : k < n). absurd (omega arith))) (cases_lt k n)

    text : ℕ → List ℕ
    text k = (pick k).0

    bytes : (m : ℕ) → m ≤ n → All IsText (listed text m)
    bytes zero le = All-nil IsText
    bytes (suc m) le = All-push IsText (listed text m) (text m) (bytes m (omega arith)) ((pick m).1 (omega arith)).0

    is_pair : (i : ℕ) → i < n → IsText (get_or (listed text n) i []) × (pair_of dead one other (get_or (listed text n) i []) ≡ get_or has.keys i 0)
    is_pair i lt = subst (λ z. IsText z × (pair_of dead one other z ≡ get_or has.keys i 0)) (sym (get_or-listed text n i lt)) ((pick i).1 lt)

module _ (dead : Option ℕ) (moved : ℕ) (one other t : Table) (sides : AreSides dead one other) (is : IsProduct dead moved one other t) where
  within : (s : List ℕ) → IsText s → place_of t s < rows_of t
  within s text = omega (arith, (is.leads s text).0, is.many)

  abbrev key : List ℕ → ℕ
  key s = get_or is.keys (place_of t s) 0

  abbrev number : List ℕ → ℕ
  number s = list_number t (place_of t s)

  numbered : (s : List ℕ) → IsText s → number s < length t.lists
  numbered s text = omega (arith, (is.listed.at (place_of t s) (is.leads s text).0).0, ap length is.lists, length-map is.numbers (list_of_pair moved one other))

  reached : (row : ℕ) → row < rows_of t → (s : List ℕ) × IsText s × (place_of t s ≡ row)
  reached row lt =
      let l : row < length is.keys = omega (arith, lt, is.many) in
      let w = is.met.reached row l in
      let at = is.leads w.0 w.1 in
      (w.0, w.1, is.met.different (place_of t w.0) row at.0 l (at.1 ∙ w.2))

  -- the joined lists of the pair's rows
  list_is : (s : List ℕ) → IsText s → list_at t (place_of t s) ≡ joined moved (list_at one (first (pair_of dead one other s))) (list_at other (second (pair_of dead one other s)))
  list_is s text =
      let at = is.leads s text in
      let l = is.listed.at (place_of t s) at.0 in
      let number_is : get_or is.numbers (number s) 0 ≡ list_pair one other (pair_of dead one other s) = l.1 ∙ ap (list_pair one other) at.1 in
      let p = pair_of_lists one other (pair_of dead one other s) sides.first_is sides.second_is (pair_in dead one other sides s text) in
      ap (λ z. get_or z (number s) []) is.lists
      ∙ get_or-map (list_of_pair moved one other) is.numbers (number s) 0 [] l.0
      ∙ ap (list_of_pair moved one other) number_is
      ∙ ap (λ z. joined moved (get_or one.lists z []) (get_or other.lists (second (list_pair one other (pair_of dead one other s))) [])) p.0
      ∙ ap (λ z. joined moved (list_at one (first (pair_of dead one other s))) (get_or other.lists z [])) p.1

  lists_there : AreListsIn one other is.numbers
  lists_there =
      lists_in one other is.keys (length is.keys) is.numbers t.listed sides.first_is sides.second_is (omega arith) (key_in dead one other sides is.keys is.met) is.listed

  apart : (ps qs : List Pattern) → IsAutomaton ps one → IsAutomaton qs other → length ps ≡ moved → IsApart t.lists
  apart ps qs a b count i j li lj e =
      let many : length t.lists ≡ length is.numbers = ap length is.lists ∙ length-map is.numbers (list_of_pair moved one other) in
      let ni : i < length is.numbers = omega (arith, li, many) in
      let nj : j < length is.numbers = omega (arith, lj, many) in
      let x = get_or is.numbers i 0 in
      let y = get_or is.numbers j 0 in
      let ix = lists_there i ni in
      let jy = lists_there j nj in
      let same : list_of_pair moved one other x ≡ list_of_pair moved one other y =
      sym (ap (λ z. get_or z i []) is.lists ∙ get_or-map (list_of_pair moved one other) is.numbers i 0 [] ni) ∙ e ∙ ap (λ z. get_or z j []) is.lists ∙ get_or-map (list_of_pair moved one other) is.numbers j 0 [] nj in
      let r = joined_same moved (get_or one.lists (first x) []) (get_or one.lists (first y) []) (get_or other.lists (second x) []) (get_or other.lists (second y) [])
      (subst (λ m. All (λ n. n < m) (get_or one.lists (first x) [])) count (lists_below ps one a (first x) ix.0))
      (subst (λ m. All (λ n. n < m) (get_or one.lists (first y) [])) count (lists_below ps one a (first y) jy.0))
      same in
      is.listed.different i j ni nj (pairs_same x y (a.apart (first x) (first y) ix.0 jy.0 r.0) (b.apart (second x) (second y) ix.1 jy.1 r.1))

  -- of a text whose pair is that of its rows
  matching : (ps qs : List Pattern) → IsAutomaton ps one → IsAutomaton qs other → length ps ≡ moved → (s : List ℕ) → IsText s →
      pair_of dead one other s ≡ pair (place_of one s) (place_of other s) → ListsMatching (ps ++ qs) s (list_at t (place_of t s))
  matching ps qs a b count s text pair_is =
      let small : place_of other s < 4294967296 = small_row other sides.second_is (place_of other s) (within_place other sides.second_is s text) in
      let f : first (pair_of dead one other s) ≡ place_of one s = ap first pair_is ∙ first_of (place_of one s) (place_of other s) small in
      let g : second (pair_of dead one other s) ≡ place_of other s = ap second pair_is ∙ second_of (place_of one s) (place_of other s) small in
      let lists : list_at t (place_of t s) ≡ joined (length ps) (list_at one (place_of one s)) (list_at other (place_of other s)) =
      list_is s text
      ∙ ap (λ z. joined moved (list_at one z) (list_at other (second (pair_of dead one other s)))) f
      ∙ ap (λ z. joined moved (list_at one (place_of one s)) (list_at other z)) g
      ∙ ap (λ z. joined z (list_at one (place_of one s)) (list_at other (place_of other s))) (sym count) in
      subst (ListsMatching (ps ++ qs) s) (sym lists) (lists-append ps qs s (list_at one (place_of one s)) (list_at other (place_of other s)) (a.matching s text) (b.matching s text))

  tells : (ps qs : List Pattern) → TellsBytes ps one → TellsBytes qs other → TellsBytes (ps ++ qs) t
  tells ps qs a b x y lx ly = (
    λ e. let c = (is.classed x y lx ly).0 e in (IsSame-append x y ps qs).1 ((a x y lx ly).0 c.0, (b x y lx ly).0 c.1),
    λ s. let c = (IsSame-append x y ps qs).0 s in (is.classed x y lx ly).1 ((a x y lx ly).1 c.0, (b x y lx ly).1 c.1),
  )

  has_classes : (ps qs : List Pattern) → TellsBytes ps one → TellsBytes qs other → HasClasses (ps ++ qs) t.width
  has_classes ps qs a b = record {
    bytes = is.bytes;
    many = is.every;
    within = λ c lt. (is.named c lt).0;
    apart = λ c d lc ld same.
        let p = is.named c lc in
        let q = is.named d ld in
        sym p.1 ∙ (tells ps qs a b (get_or is.bytes c 0) (get_or is.bytes d 0) p.0 q.0).1 same ∙ q.1;
    each = λ x few.
        let c = get_or t.classes x 0 in
        let lt = is.small x few in
        let p = is.named c lt in
        (c, lt, (tells ps qs a b x (get_or is.bytes c 0) few p.0).0 (sym p.1));
  }

  used : (n : ℕ) → n < length t.lists → (s : List ℕ) × IsText s × (number s ≡ n)
  used n lt =
      let u = is.listed.used n (omega (arith, lt, ap length is.lists, length-map is.numbers (list_of_pair moved one other))) in
      let w = reached u.0 (omega (arith, u.1, is.many)) in
      (w.0, w.1, ap (list_number t) w.2 ∙ u.2)

  -- texts of one row are of one pair, and the other way round
  same_pair : (s u : List ℕ) → IsText s → IsText u → (place_of t s ≡ place_of t u) ↔ (pair_of dead one other s ≡ pair_of dead one other u)
  same_pair s u st ut =
      let x = is.leads s st in
      let y = is.leads u ut in
      (λ e. sym x.1 ∙ ap (λ z. get_or is.keys z 0) e ∙ y.1, λ e. is.met.different (place_of t s) (place_of t u) x.0 y.0 (x.1 ∙ e ∙ sym y.1))

-- with no dead row: the automaton of the patterns of both
pub beside_built : (moved : ℕ) (one other t : Table) → AreSides None one other → IsProduct None moved one other t → (ps qs : List Pattern) → IsBuilt ps one → IsBuilt qs other → length ps ≡ moved →
    IsBuilt (ps ++ qs) t
beside_built moved one other t sides is ps qs a b count = record {
  automaton = record {
    matching = λ s text. matching None moved one other t sides is ps qs a.automaton b.automaton count s text refl;
    places = λ s u st ut. (
      λ e.
          let p = (same_pair None moved one other t sides is s u st ut).0 e in
          let small : (v : List ℕ) → IsText v → place_of other v < 4294967296 = λ v vt. small_row other sides.second_is (place_of other v) (within_place other sides.second_is v vt) in
          let f : place_of one s ≡ place_of one u = sym (first_of (place_of one s) (place_of other s) (small s st)) ∙ ap first p ∙ first_of (place_of one u) (place_of other u) (small u ut) in
          let g : place_of other s ≡ place_of other u = sym (second_of (place_of one s) (place_of other s) (small s st)) ∙ ap second p ∙ second_of (place_of one u) (place_of other u) (small u ut) in
          (SamePlaces-append ps qs s u).1 ((a.automaton.places s u st ut).0 f, (b.automaton.places s u st ut).0 g),
      λ same.
          let both = (SamePlaces-append ps qs s u).0 same in
          (same_pair None moved one other t sides is s u st ut).1
          (ap (λ z. pair z (place_of other s)) ((a.automaton.places s u st ut).1 both.0) ∙ ap (pair (place_of one u)) ((b.automaton.places s u st ut).1 both.1)),
    );
    reached = reached None moved one other t sides is;
    within = within None moved one other t sides is;
    appended = λ s u b st ut few e. row_after-append t 0 s (b ∷ []) ∙ ap (λ r. row_after t r (b ∷ [])) e ∙ sym (row_after-append t 0 u (b ∷ []));
    classes = has_classes None moved one other t sides is ps qs a.bytes b.bytes;
    numbered = numbered None moved one other t sides is;
    apart = apart None moved one other t sides is ps qs a.automaton b.automaton count;
    used = used None moved one other t sides is;
  };
  bytes = tells None moved one other t sides is ps qs a.bytes b.bytes;
}

-- a text that the pattern matches doesn't lead to a dead row
alive : (other : Table) (q : Pattern) (s : List ℕ) → IsAutomaton (q ∷ []) other → IsText s → Matches q.items.items s → (row : ℕ) → IsDead other row → row ≡ place_of other s → ⊥
alive other q s b text m row dead e =
    let has = ((b.matching s text).exact 0).1 (q, refl, m) in
    let none : list_at other (place_of other s) ≡ [] = sym (ap (list_at other) e) ∙ dead.lists in
    omega (arith, has.1, ap length none)

first_matches : (q p : Pattern) (s : List ℕ) → slice_get (q ∷ []) 0 ≡ Some p → Matches p.items.items s → Matches q.items.items s
first_matches q p s e m = let same : p ≡ q = cc e in subst (λ (z : Pattern). Matches z.items.items s) same m

pub narrowed_is : (dead : Option ℕ) (moved : ℕ) (one other t : Table) → AreSides dead one other → IsProduct dead moved one other t → (ps : List Pattern) (q : Pattern) → IsBuilt ps one →
    IsBuilt (q ∷ []) other → length ps ≡ moved → IsNarrowed ps q t
narrowed_is dead moved one other t sides is ps q a b count = record {
  matching = λ s text m. matching dead moved one other t sides is ps (q ∷ []) a.automaton b.automaton count s text
      (is_live dead one other (place_of one s) (place_of other s) sides (alive other q s b.automaton text m));
  matched = matched;
  within = within dead moved one other t sides is;
  numbered = numbered dead moved one other t sides is;
  apart = apart dead moved one other t sides is ps (q ∷ []) a.automaton b.automaton count;
}
  where
    matched : (s : List ℕ) → IsText s → Contains (list_at t (place_of t s)) (length ps) → Matches q.items.items s
    matched s text c =
        let p = pair_of dead one other s in
        let xs = list_at one (first p) in
        let ys = list_at other (second p) in
        let at = pair_in dead one other sides s text in
        let has : Contains (joined moved xs ys) (length ps) = subst (λ z. Contains z (length ps)) (list_is dead moved one other t sides is s text) c in
        let second_row : second p ≡ place_of other s =
        settled_second dead (place_of one s) (place_of other s) (small_row other sides.second_is (place_of other s) (within_place other sides.second_is s text)) in
        ⊎_elim
        (λ (l : Contains xs (length ps)).
        let below : get_or xs l.0 (length ps) < length ps = lists_below ps one a.automaton (list_number one (first p)) (sides.first_is.numbered (first p) at.row) l.0 (length ps) l.1 in
        absurd (omega (arith, below, l.2)))
        (λ (r : Contains (map (λ n. moved + n) ys) (length ps)).
        let y = moved_in (λ n. moved + n) ys (length ps) r in
        let zero_is : y.0 ≡ 0 = omega (arith, y.2, count) in
        let m = ((b.automaton.matching s text).exact 0).0 (subst (λ z. Contains (list_at other z) 0) second_row (subst (λ z. Contains ys z) zero_is y.1)) in
        first_matches q m.0 s m.1 m.2)
        (Contains-append_cases xs (map (λ n. moved + n) ys) (length ps) has)
