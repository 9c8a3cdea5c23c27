-- Paths in byte order, and those among them that begin with a front.
use Rattle.std.proofs.Common.{◌≡◌, ℕ, ◌+◌, ◌<◌, List, [], ◌∷◌, ◌++◌, Bool, true, false, true≢false, cond, not, ◌&&◌, ◌||◌}
use Rattle.std.proofs.Common.{map, length, take, drop, get_or, Vec, Global, Ordering, Less, Equal, Greater, nat_cmp, nat_eq, is_lt, is_le, Option, Some, None}
use Rattle.std.proofs.Common.{refl, sym, ap, ◌∙◌, append-nil, arith, take-append-drop}
use Rattle.std.specs.List.{AllByRecursion, list_any, starts_with}
use Rattle.std.specs.List.Sorted.{IsStrictlySortedBy}
use Rattle.std.specs.Map.{keys_of}
use Rattle.std.specs.Ordering.{ordering_then, ordering_reverse}
use Rattle.std.specs.Cmp.Lexicographic.{slice_cmp, pointwise, bytes_decides, nat_list_cmp_total}
use Rattle.std.specs.BTreeMap.Range.{entries_between}
use Rattle.std.specs.declared.ops.Bound.TheVariants.{Included, Unbounded}
use Rattle.std.proofs.lemmas.Cmp.{nat_cmp_total}
use Rattle.std.proofs.lemmas.Map.Lookups.{exact_unsigned}
use Rattle.std.proofs.lemmas.Map.Keys.{Less-from_sorted}
use Rattle.std.proofs.lemmas.List.{get_or-map, length-map}
use Rattle.aa_files.specs.Orders.{AreInByteOrder}
use Rattle.aa_files.specs.Texts.{texts}
use Rattle.aa_question.specs.Memory.{row_of, has_slash, name_behind, names_behind, has_front}
use Rattle.aa_question.proofs.Rows.{Entry, path_cmp}

-- ---- behind a front

same_byte : (o : Ordering) (x : ℕ) → nat_cmp x x ≡ o → o ≡ ordering_reverse o → o ≡ Equal
same_byte Less x is back = absurd cc
same_byte Equal x is back = refl
same_byte Greater x is back = absurd cc

equal_byte : (x : ℕ) → nat_cmp x x ≡ Equal
equal_byte x = same_byte (nat_cmp x x) x refl (nat_cmp_total.antisymm x x)

pub cmp_behind : (front a b : List ℕ) → slice_cmp nat_cmp (front ++ a) (front ++ b) ≡ slice_cmp nat_cmp a b
cmp_behind [] a b = refl
cmp_behind (x ∷ front) a b = ap (λ (o : Ordering). ordering_then o (slice_cmp nat_cmp (front ++ a) (front ++ b))) (equal_byte x) ∙ cmp_behind front a b

empty_first : (s : List ℕ) → is_le (slice_cmp nat_cmp [] s) ≡ true
empty_first [] = refl
empty_first (x ∷ s) = refl

front_first : (front s : List ℕ) → is_le (slice_cmp nat_cmp front (front ++ s)) ≡ true
front_first front s =
    ap (λ (f : List ℕ). is_le (slice_cmp nat_cmp f (front ++ s))) (sym (append-nil front)) ∙ ap is_le (cmp_behind front [] s) ∙ empty_first s

pub goes_on : (front path : List ℕ) → starts_with nat_eq path front ≡ true → path ≡ front ++ drop (length front) path
goes_on front path e =
    let same : front ≡ take (length front) path = (bytes_decides front (take (length front) path)).0 e in
    sym (take-append-drop (length front) path) ∙ ap (λ (f : List ℕ). f ++ drop (length front) path) (sym same)

-- ---- between a front and a path that begins with it

squeezed_at : (o : Ordering) (k a : ℕ) (front x s : List ℕ) → nat_cmp k a ≡ o
    → (is_le (slice_cmp nat_cmp front x) ≡ true → slice_cmp nat_cmp x (front ++ s) ≡ Less → pointwise nat_eq front (take (length front) x) ≡ true)
    → is_le (ordering_then (nat_cmp k a) (slice_cmp nat_cmp front x)) ≡ true → ordering_then (nat_cmp a k) (slice_cmp nat_cmp x (front ++ s)) ≡ Less
    → (nat_eq k a && pointwise nat_eq front (take (length front) x)) ≡ true
squeezed_at Less k a front x s is later low high =
    let back : nat_cmp a k ≡ Greater = nat_cmp_total.antisymm a k ∙ ap ordering_reverse is in
    absurd cc
squeezed_at Equal k a front x s is later low high =
    let back : nat_cmp a k ≡ Equal = nat_cmp_total.antisymm a k ∙ ap ordering_reverse is in
    let below : is_le (slice_cmp nat_cmp front x) ≡ true = ap (λ (o : Ordering). is_le (ordering_then o (slice_cmp nat_cmp front x))) (sym is) ∙ low in
    let above : slice_cmp nat_cmp x (front ++ s) ≡ Less = ap (λ (o : Ordering). ordering_then o (slice_cmp nat_cmp x (front ++ s))) (sym back) ∙ high in
    let same : k ≡ a = exact_unsigned k a is in
    let here : nat_eq k a ≡ true = grind (arith, same) in
    rw (here, later below above) refl
squeezed_at Greater k a front x s is later low high = absurd cc

squeezed : (front x s : List ℕ) → is_le (slice_cmp nat_cmp front x) ≡ true → slice_cmp nat_cmp x (front ++ s) ≡ Less → pointwise nat_eq front (take (length front) x) ≡ true
squeezed [] x s low high = refl
squeezed (k ∷ front) [] s low high = absurd (true≢false (sym low))
squeezed (k ∷ front) (a ∷ x) s low high = squeezed_at (nat_cmp k a) k a front x s refl (squeezed front x s) low high

abbrev pub begins : List ℕ → Entry → Bool
begins front e = starts_with nat_eq e.0.items front

not_behind : (b : Bool) (front : List ℕ) (e r : Entry) → begins front r ≡ b → is_le (slice_cmp nat_cmp front e.0.items) ≡ true → begins front e ≡ false → path_cmp e.0 r.0 ≡ Less → begins front r ≡ false
not_behind false front e r is low other less = is
not_behind true front e r is low other less =
    let on : r.0.items ≡ front ++ drop (length front) r.0.items = goes_on front r.0.items is in
    let high : slice_cmp nat_cmp e.0.items (front ++ drop (length front) r.0.items) ≡ Less = ap (slice_cmp nat_cmp e.0.items) (sym on) ∙ less in
    absurd (true≢false (sym (squeezed front e.0.items (drop (length front) r.0.items) low high) ∙ other))

none_behind : (front : List ℕ) (e : Entry) (es : List Entry) → is_le (slice_cmp nat_cmp front e.0.items) ≡ true → begins front e ≡ false → AllByRecursion (λ k. path_cmp e.0 k ≡ Less) (keys_of es)
    → list_any (begins front) es ≡ false
none_behind front e [] low other all = refl
none_behind front e (r ∷ rs) low other all =
    ap (λ (b : Bool). b || list_any (begins front) rs) (not_behind (begins front r) front e r refl low other all.0) ∙ none_behind front e rs low other all.1

-- ---- the first that isn't before a front

abbrev pub first_begins : List ℕ → List Entry → Bool
first_begins front [] = false
first_begins front (e ∷ es) = begins front e

abbrev pub from : Vec ℕ Global → List Entry → List Entry
from front es = entries_between path_cmp (Included front) Unbounded es

searched_at : (o : Ordering) (b : Bool) (front : Vec ℕ Global) (e : Entry) (es : List Entry) → path_cmp front e.0 ≡ o → begins front.items e ≡ b → AllByRecursion (λ k. path_cmp e.0 k ≡ Less) (keys_of es)
    → first_begins front.items (from front es) ≡ list_any (begins front.items) es → first_begins front.items (from front (e ∷ es)) ≡ (begins front.items e || list_any (begins front.items) es)
searched_at Less true front e es is does all later = rw (is, does) refl
searched_at Less false front e es is does all later =
    let none : list_any (begins front.items) es ≡ false = none_behind front.items e es (ap is_le is) does all in
    rw (is, does, none) refl
searched_at Equal true front e es is does all later = rw (is, does) refl
searched_at Equal false front e es is does all later =
    let none : list_any (begins front.items) es ≡ false = none_behind front.items e es (ap is_le is) does all in
    rw (is, does, none) refl
searched_at Greater true front e es is does all later =
    let on : e.0.items ≡ front.items ++ drop (length front.items) e.0.items = goes_on front.items e.0.items does in
    let low : is_le (path_cmp front e.0) ≡ true = ap (λ (p : List ℕ). is_le (slice_cmp nat_cmp front.items p)) on ∙ front_first front.items (drop (length front.items) e.0.items) in
    absurd (true≢false (sym low ∙ ap is_le is))
searched_at Greater false front e es is does all later = rw (is, does) later

pub searched : (front : Vec ℕ Global) (es : List Entry) → IsStrictlySortedBy path_cmp (keys_of es) → first_begins front.items (from front es) ≡ list_any (begins front.items) es
unfolding IsStrictlySortedBy
searched front [] up = refl
searched front (e ∷ es) up = searched_at (path_cmp front e.0) (begins front.items e) front e es refl refl up.0 (searched front es up.1)

pub front_is : (front : List ℕ) (es : List Entry) → list_any (begins front) es ≡ has_front front (map row_of es)
front_is front [] = refl
front_is front (e ∷ es) = ap (λ (b : Bool). begins front e || b) (front_is front es)

-- ---- the names behind a front

name_at : (b c : Bool) (front path name : List ℕ) → starts_with nat_eq path front ≡ b → not (has_slash (drop (length front) path)) ≡ c
    → cond (b && c) (Some (drop (length front) path)) None ≡ Some name → path ≡ front ++ name
name_at false c front path name does bare is = absurd cc
name_at true false front path name does bare is = absurd cc
name_at true true front path name does bare is =
    let same : drop (length front) path ≡ name = cc in
    goes_on front path does ∙ ap (λ (n : List ℕ). front ++ n) same

name_is : (front path name : List ℕ) → name_behind front path ≡ Some name → path ≡ front ++ name
name_is front path name is = name_at (starts_with nat_eq path front) (not (has_slash (drop (length front) path))) front path name refl refl is

abbrev pub names : List ℕ → List Entry → List (List ℕ)
names front es = names_behind front (map row_of es)

after_at : (o : Option (List ℕ)) (front path name : List ℕ) (e : Entry) (es : List Entry) → name_behind front e.0.items ≡ o → path ≡ front ++ name → slice_cmp nat_cmp path e.0.items ≡ Less
    → AllByRecursion (λ n. slice_cmp nat_cmp name n ≡ Less) (names front es) → AllByRecursion (λ n. slice_cmp nat_cmp name n ≡ Less) (names front (e ∷ es))
after_at None front path name e es found is low later = rw found later
after_at (Some n) front path name e es found is low later =
    let other : e.0.items ≡ front ++ n = name_is front e.0.items n found in
    let less : slice_cmp nat_cmp name n ≡ Less = sym (cmp_behind front name n) ∙ sym (ap (λ (p : List ℕ). slice_cmp nat_cmp p (front ++ n)) is) ∙ sym (ap (slice_cmp nat_cmp path) other) ∙ low in
    rw found (less, later)

all_after : (front path name : List ℕ) (es : List Entry) → path ≡ front ++ name → AllByRecursion (λ (k : Vec ℕ Global). slice_cmp nat_cmp path k.items ≡ Less) (keys_of es)
    → AllByRecursion (λ n. slice_cmp nat_cmp name n ≡ Less) (names front es)
all_after front path name [] is all = tt
all_after front path name (e ∷ es) is all = after_at (name_behind front e.0.items) front path name e es refl is all.0 (all_after front path name es is all.1)

rise_at : (o : Option (List ℕ)) (front : List ℕ) (e : Entry) (es : List Entry) → name_behind front e.0.items ≡ o → AllByRecursion (λ k. path_cmp e.0 k ≡ Less) (keys_of es)
    → IsStrictlySortedBy (slice_cmp nat_cmp) (names front es) → IsStrictlySortedBy (slice_cmp nat_cmp) (names front (e ∷ es))
unfolding IsStrictlySortedBy
rise_at None front e es found all later = rw found later
rise_at (Some n) front e es found all later = rw found (all_after front e.0.items n es (name_is front e.0.items n found) all, later)

names_rise : (front : List ℕ) (es : List Entry) → IsStrictlySortedBy path_cmp (keys_of es) → IsStrictlySortedBy (slice_cmp nat_cmp) (names front es)
unfolding IsStrictlySortedBy
names_rise front [] up = tt
names_rise front (e ∷ es) up = rise_at (name_behind front e.0.items) front e es refl up.0 (names_rise front es up.1)

behind : (a b : List ℕ) → slice_cmp nat_cmp a b ≡ Less → is_lt (slice_cmp nat_cmp b a) ≡ false
behind a b less = ap is_lt (nat_list_cmp_total.antisymm b a ∙ ap ordering_reverse less)

pub in_byte_order : (ns : List (Vec ℕ Global)) (front : List ℕ) (es : List Entry) → texts ns ≡ names front es → IsStrictlySortedBy path_cmp (keys_of es) → AreInByteOrder ns
in_byte_order ns front es is up k d low h =
    let l : length (texts ns) ≡ length ns = length-map ns (λ v. v.items) in
    let a : k + 1 < length ns = h in
    let b : k < length ns = omega arith in
    let c : k + 1 < length (texts ns) = omega (arith, l) in
    let rises : IsStrictlySortedBy (slice_cmp nat_cmp) (texts ns) = rw is (names_rise front es up) in
    let less : slice_cmp nat_cmp (get_or (texts ns) k d.items) (get_or (texts ns) (k + 1) d.items) ≡ Less = Less-from_sorted (slice_cmp nat_cmp) (texts ns) k (k + 1) d.items rises (omega arith) c in
    let one = get_or-map (λ (v : Vec ℕ Global). v.items) ns k d d.items b in
    let two = get_or-map (λ (v : Vec ℕ Global). v.items) ns (k + 1) d d.items a in
    behind (get_or ns k d).items (get_or ns (k + 1) d).items (ap (λ (t : List ℕ). slice_cmp nat_cmp t (get_or ns (k + 1) d).items) (sym one) ∙ ap (slice_cmp nat_cmp (get_or (texts ns) k d.items)) (sym two) ∙ less)
