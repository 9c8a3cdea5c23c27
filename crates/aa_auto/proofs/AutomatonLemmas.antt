-- The sets that were found make an automaton.
use Rattle.std.proofs.Common.{◌≡◌, ℕ, ◌+◌, ◌*◌, ◌<◌, ◌≤◌, List, [], ◌∷◌, ◌++◌, length, map, get_or, drop, drop-cons, suc, refl, sym, ap, ◌∙◌, subst, arith, append_assoc}
use Rattle.std.proofs.lemmas.List.{append-nil, get_or-map, get_or_default}
use Rattle.std.proofs.lemmas.List.Elements.{All-head, All-tail}
use Rattle.aa_pattern.specs.Limits.{most_states}
use Rattle.aa_auto.specs.declared.net.Net.{Net}
use Rattle.aa_auto.specs.Nets.{IsNetOf, patterns_of, kept_of}
use Rattle.aa_auto.specs.Classes.{IsSame}
use Rattle.aa_auto.specs.Division.{AreClassesOf}
use Rattle.aa_auto.specs.Spots.{IsSpotsOf}
use Rattle.aa_auto.specs.Tables.{Table, IsTable, IsText, IsAutomaton, HasClasses, ListsMatching, row_after, place_of, list_number, rows_of}
use Rattle.aa_auto.specs.Explored.{IsExplored, Goes}
use Rattle.aa_auto.specs.Listed.{Listing}
use Rattle.aa_auto.proofs.CellLemmas.{cell_below}
use Rattle.aa_auto.proofs.LawLemmas.{same_bytes}
use Rattle.aa_auto.proofs.ListedLemmas.{row_list, some_row, number_within}
use Rattle.aa_auto.proofs.ExploredLemmas.{same_sets, same_places, spots_same}

pub row_after-append : (t : Table) (row : ℕ) (s u : List ℕ) → row_after t row (s ++ u) ≡ row_after t (row_after t row s) u
row_after-append t row [] u = refl
row_after-append t row (b ∷ s) u = row_after-append t (get_or t.cells (t.width * row + get_or t.classes b 0) 0) s u

module _ (net : Net) (is : IsNetOf net) (sets : List (List ℕ)) (of bytes cells : List ℕ) (l : Listing) (classes : AreClassesOf (patterns_of net) of bytes) (all : IsExplored net sets bytes cells l) where
  abbrev made : Table
  made = record { classes = of; width = length bytes; cells = cells; listed = l.listed; lists = l.lists }

  cell : (row b : ℕ) → row < length sets → b < 256 → Goes net sets row (get_or bytes (get_or of b 0) 0) (get_or cells (length bytes * row + get_or of b 0) 0)
  cell row b lt few =
      let class = classes.division.within b few in
      all.filled row (get_or of b 0) class
      (subst (λ n. length bytes * row + get_or of b 0 < n) (sym all.whole) (cell_below (length bytes) row (length sets) (get_or of b 0) lt class))

  step : (row b : ℕ) (front : List ℕ) → row < length sets → b < 256 → IsSpotsOf (kept_of net) (get_or sets row []) front →
      IsSpotsOf (kept_of net) (get_or sets (get_or cells (length bytes * row + get_or of b 0) 0) []) (front ++ b ∷ [])
  step row b front lt few set =
      let named = classes.division.named (get_or of b 0) (classes.division.within b few) in
      let same : IsSame (patterns_of net) (get_or bytes (get_or of b 0) 0) b = (classes.same (get_or bytes (get_or of b 0) 0) b named.0 few).0 named.1 in
      spots_same net is (get_or sets (get_or cells (length bytes * row + get_or of b 0) 0) []) (front ++ get_or bytes (get_or of b 0) 0 ∷ []) (front ++ b ∷ [])
      ((cell row b lt few).step front set) (same_bytes (patterns_of net) (get_or bytes (get_or of b 0) 0) b same front)

  leads : (s : List ℕ) → IsText s → (row : ℕ) (front : List ℕ) → row < length sets → IsSpotsOf (kept_of net) (get_or sets row []) front →
      (row_after made row s < length sets) × IsSpotsOf (kept_of net) (get_or sets (row_after made row s) []) (front ++ s)
  leads [] text row front lt set = (lt, subst (IsSpotsOf (kept_of net) (get_or sets row [])) (sym (append-nil front)) set)
  leads (b ∷ s) text row front lt set =
      let few : b < 256 = All-head (λ b. b < 256) b s text in
      let rest = leads s (All-tail (λ b. b < 256) b s text) (get_or cells (length bytes * row + get_or of b 0) 0) (front ++ b ∷ []) (cell row b lt few).within (step row b front lt few set) in
      (rest.0, subst (IsSpotsOf (kept_of net) (get_or sets (row_after made row (b ∷ s)) [])) (append_assoc front (b ∷ []) s) rest.1)

  at : (s : List ℕ) → IsText s → (row_after made 0 s < length sets) × IsSpotsOf (kept_of net) (get_or sets (row_after made 0 s) []) s
  at s text = leads s text 0 [] all.reached.some all.reached.start

  appended : (s u : List ℕ) (b : ℕ) → place_of made s ≡ place_of made u → place_of made (s ++ b ∷ []) ≡ place_of made (u ++ b ∷ [])
  appended s u b e = row_after-append made 0 s (b ∷ []) ∙ ap (λ r. row_after made r (b ∷ [])) e ∙ sym (row_after-append made 0 u (b ∷ []))

  has_classes : HasClasses (patterns_of net) (length bytes)
  has_classes = record {
    bytes = bytes;
    many = refl;
    within = λ c lt. (classes.division.named c lt).0;
    apart = λ c d lc ld same.
        let p = classes.division.named c lc in
        let q = classes.division.named d ld in
        sym p.1 ∙ (classes.same (get_or bytes c 0) (get_or bytes d 0) p.0 q.0).1 same ∙ q.1;
    each = λ b few.
        let lt = classes.division.within b few in
        let p = classes.division.named (get_or of b 0) lt in
        (get_or of b 0, lt, (classes.same b (get_or bytes (get_or of b 0) 0) few p.0).0 (sym p.1));
  }

  reached : (row : ℕ) → row < rows_of made → (s : List ℕ) × IsText s × (place_of made s ≡ row)
  reached row lt =
      let w = all.reached.reached row (omega (arith, all.listed.many)) in (
        w.0,
        w.1,
        all.reached.apart (row_after made 0 w.0) row (at w.0 w.1).0 (omega (arith, all.listed.many))
            (same_sets net is (get_or sets (row_after made 0 w.0) []) (get_or sets row []) w.0 w.0 (at w.0 w.1).1 w.2 (λ n q. (λ p. p, λ p. p))),
      )

  automaton : IsAutomaton (patterns_of net) (record { classes = of; width = length bytes; cells = cells; listed = l.listed; lists = l.lists })
  automaton = record {
    matching = λ s text.
        let row = row_after made 0 s in
        subst (ListsMatching (patterns_of net) s) (row_list l row (omega (arith, (at s text).0, all.listed.many))) (all.listed.exact row s (at s text).0 (at s text).1);
    places = λ s u st ut. (
      λ e. same_places net is (get_or sets (row_after made 0 s) []) s u (at s st).1 (subst (λ k. IsSpotsOf (kept_of net) (get_or sets k []) u) (sym e) (at u ut).1),
      λ same. all.reached.apart (row_after made 0 s) (row_after made 0 u) (at s st).0 (at u ut).0 (same_sets net is (get_or sets (row_after made 0 s) []) (get_or sets (row_after made 0 u) []) s u (at s st).1 (at u ut).1 same),
    );
    reached = reached;
    within = λ s text. omega (arith, (at s text).0, all.listed.many);
    appended = λ s u b st ut few e. appended s u b e;
    classes = has_classes;
    numbered = λ s text. number_within l all.listed.listing (row_after made 0 s) (omega (arith, (at s text).0, all.listed.many));
    apart = all.listed.listing.apart;
    used = λ n lt.
        let r = some_row l all.listed.listing n lt in
        let w = reached r.0 r.1 in
        (w.0, w.1, ap (list_number made) w.2 ∙ r.2);
  }

  -- what a run of the automaton needs
  table : length sets ≤ most_states → IsTable (record { classes = of; width = length bytes; cells = cells; listed = l.listed; lists = l.lists })
  table few = record {
    some = omega (arith, all.reached.some, all.listed.many);
    few_rows = omega (arith, few, all.listed.many);
    few_lists = omega (arith, few, all.listed.many, all.listed.listing.few);
    wide = omega (arith, classes.division.within 0 (omega arith));
    few = classes.division.few;
    bytes = classes.division.many;
    classed = classes.division.within;
    whole = all.whole ∙ ap (λ n. length bytes * n) (sym all.listed.many);
    within = λ row class lt few_class.
        let lt' : row < length sets = omega (arith, lt, all.listed.many) in
        omega (arith, (all.filled row class few_class (subst (λ n. length bytes * row + class < n) (sym all.whole) (cell_below (length bytes) row (length sets) class lt' few_class))).within, all.listed.many);
    numbered = number_within l all.listed.listing;
  }

abbrev pub table_of : List ℕ → ℕ → List ℕ → List ℕ → List (List ℕ) → Table
table_of of w cells listed lists = record { classes = of; width = w; cells = cells; listed = listed; lists = lists }

-- tables with the same parts
same_table : (of : List ℕ) (w v : ℕ) (xs ys ls ms : List ℕ) (us vs : List (List ℕ)) → w ≡ v → xs ≡ ys → ls ≡ ms → us ≡ vs → table_of of w xs ls us ≡ table_of of v ys ms vs
same_table of w v xs ys ls ms us vs e f g h =
    ap (λ z. table_of of z xs ls us) e ∙ ap (λ z. table_of of v z ls us) f ∙ ap (λ z. table_of of v ys z us) g ∙ ap (λ z. table_of of v ys ms z) h

-- both of a table whose parts were copied
pub built : (net : Net) (is : IsNetOf net) (sets : List (List ℕ)) (of bytes cells : List ℕ) (l : Listing) → AreClassesOf (patterns_of net) of bytes → IsExplored net sets bytes cells l →
    length sets ≤ most_states → (v : ℕ) (ys ms : List ℕ) (vs : List (List ℕ)) → length bytes ≡ v → ys ≡ cells → ms ≡ l.listed → vs ≡ l.lists →
    IsTable (table_of of v ys ms vs) × IsAutomaton (patterns_of net) (table_of of v ys ms vs)
built net is sets of bytes cells l classes all few v ys ms vs e f g h =
    let same = same_table of (length bytes) v cells ys l.listed ms l.lists vs e (sym f) (sym g) (sym h) in
    (subst IsTable same (table net is sets of bytes cells l classes all few), subst (IsAutomaton (patterns_of net)) same (automaton net is sets of bytes cells l classes all))

-- one more byte of the text
pub row_on : (t : Table) (text : List ℕ) (k row class next : ℕ) → IsTable t → k < length text → get_or text k 0 < 256 → row < rows_of t →
    class ≡ get_or t.classes (get_or text k 0) class → next ≡ get_or t.cells (t.width * row + class) next → row_after t row (drop k text) ≡ row_after t 0 text →
    (row_after t next (drop (k + 1) text) ≡ row_after t 0 text) × (next < rows_of t)
row_on t text k row class next is lt few within of_byte of_cell before =
    let byte = get_or text k 0 in
    let class_is : class ≡ get_or t.classes byte 0 = of_byte ∙ get_or_default t.classes byte class 0 (omega (arith, is.bytes, few)) in
    let small : class < t.width = subst (λ n. n < t.width) (sym class_is) (is.classed byte few) in
    let inside : t.width * row + class < length t.cells = subst (λ n. t.width * row + class < n) (sym is.whole) (cell_below t.width row (rows_of t) class within small) in
    let next_is : next ≡ get_or t.cells (t.width * row + class) 0 = of_cell ∙ get_or_default t.cells (t.width * row + class) next 0 inside in
    let e : suc k ≡ k + 1 = omega arith in
    let cut : drop k text ≡ byte ∷ drop (k + 1) text = drop-cons text k 0 lt ∙ ap (λ n. byte ∷ drop n text) e in
    let step : row_after t next (drop (k + 1) text) ≡ row_after t row (drop k text) =
    ap (λ n. row_after t n (drop (k + 1) text)) (next_is ∙ ap (λ c. get_or t.cells (t.width * row + c) 0) class_is) ∙ sym (ap (row_after t row) cut) in
    (step ∙ before, subst (λ n. n < rows_of t) (sym next_is) (is.within row class within small))

-- the cell of a row at a byte stands among the cells
pub cell_at : (t : Table) (row byte class : ℕ) → IsTable t → row < rows_of t → byte < 256 → class ≡ get_or t.classes byte class →
    t.width * row + class < length t.cells
cell_at t row byte class is lt few e =
    let class_is : class ≡ get_or t.classes byte 0 = e ∙ get_or_default t.classes byte class 0 (omega (arith, is.bytes, few)) in
    let small : class < t.width = subst (λ n. n < t.width) (sym class_is) (is.classed byte few) in
    subst (λ n. t.width * row + class < n) (sym is.whole) (cell_below t.width row (rows_of t) class lt small)

-- what is kept of a number stands where the number does
pub number_at : {A : Type 0} (number : A → ℕ) (kept : List A) (numbers : List ℕ) (k : ℕ) (x : A) → map number kept ≡ numbers →
    k < length kept → x ≡ get_or kept k x → number x ≡ get_or numbers k (number x)
number_at number kept numbers k x e lt at = ap number at ∙ sym (get_or-map number kept k x (number x) lt) ∙ ap (λ l. get_or l k (number x)) e
