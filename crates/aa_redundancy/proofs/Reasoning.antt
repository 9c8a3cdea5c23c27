-- Why rules are redundant, by the rows that have marks of them.
use Rattle.std.proofs.Common.{◌≡◌, ◌≢◌, ◌⊎◌, ℕ, ◌+◌, ◌<◌, ◌≤◌, List, [], ◌∷◌}
use Rattle.std.proofs.Common.{length, take, get_or, Bool, true, false, true≢false, not, cond, Option, Some}
use Rattle.std.proofs.Common.{None, refl, sym, ap, ◌∙◌, subst, All, Contains, arith, ⊎_elim, inl, inr}
use Rattle.std.specs.Prelude.{◌==◌, ◌&&◌, ◌||◌, nat_lt, is_some}
use Rattle.std.specs.List.{slice_get, filter}
use Rattle.std.specs.Int.Bits.{and_zero_l}
use Rattle.std.proofs.lemmas.Bool.{cases_Bool, cases_lt, ltb-true, lt-ltb, eqb-true, and_parts, not-true}
use Rattle.std.proofs.lemmas.List.Elements.{All-weaker, All-push, Contains-push_cases}
use Rattle.std.proofs.lemmas.List.{get_or_past, take_more}
use Rattle.std.proofs.lemmas.Bool.Decides.{eqb_tells}
use Rattle.std.proofs.lemmas.Map.Views.{any-filter_same}
use Rattle.aa_model.specs.Lawful.{has_exec}
use Rattle.aa_compile.specs.declared.sets.RuleSets.{RuleSets}
use Rattle.aa_compile.specs.declared.side.Chosen.{Chosen}
use Rattle.aa_compile.specs.Gathered.{gather, picked}
use Rattle.aa_compile.specs.Said.{both, nothing}
use Rattle.aa_compile.specs.Sides.{no_choice, earlier}
use Rattle.aa_compile.proofs.ConflictLemmas.{in_head, in_tail}
use Rattle.aa_redundancy.specs.declared.marks.RuleMark.{RuleMark}
use Rattle.aa_redundancy.specs.declared.saying.Saying.{Saying}
use Rattle.aa_redundancy.specs.declared.tables.Table.{Table}
use Rattle.aa_redundancy.specs.declared.mentions.RowNumber.{RowNumber}
use Rattle.aa_redundancy.specs.declared.beside.Beside.{Beside}
use Rattle.aa_redundancy.specs.declared.reasons.Reason.{Reason}
use Rattle.aa_redundancy.specs.Rights.{rights}
use Rattle.aa_redundancy.specs.Without.{marked, only}
use Rattle.aa_redundancy.specs.Marks.{is_sort, sets_of, choice_of, choice_by, chosen_by, choose, led, said_by}
use Rattle.aa_redundancy.specs.Covering.{Within}
use Rattle.aa_redundancy.specs.Tables.{Relation, Equal, none_gone, TablesRelated, SameTables, AllDecide}
use Rattle.aa_redundancy.specs.Mentions.{Mentions, rows_at, AreListed, RelatedAt}
use Rattle.aa_redundancy.specs.Reasons.{is_one_of, all_but, and_one, but_one, others_than, ChangesNothing, IsReason, AreReasons}
use Rattle.aa_redundancy.specs.Keeping.{Keeps, KeptAt, RowKept, StayKept, IsNeeded}
use Rattle.aa_redundancy.proofs.Gone.{Agree, AgreeAt, agree_all, said_same}
use Rattle.aa_redundancy.proofs.Mentioning.{mentions_or_agrees, read_at}
use Rattle.aa_redundancy.proofs.Keeping.{apart}

-- rules that are gone alike
pub related_alike : (R : Relation) (ts : List Table) (g o f h : ℕ → Bool) → ((n : ℕ) → g n ≡ f n) → ((n : ℕ) → o n ≡ h n) → TablesRelated R ts g o → TablesRelated R ts f h
related_alike R ts g o f h gf oh related t tc row rc owned =
    let ms = t.marks.items in
    subst (λ (s : Saying). R s (said_by h owned (picked ms row))) (said_same g f ms row (agree_all g f ms gf row) owned)
    (subst (λ (s : Saying). R (said_by g owned (picked ms row)) s) (said_same o h ms row (agree_all o h ms oh row) owned) (related t tc row rc owned))

stays_so : (g e : Bool) → e ≡ false → (g && not e) ≡ g
stays_so true true f = absurd (true≢false f)
stays_so true false f = refl
stays_so false e f = refl

-- rules of one place more are left
pub rest_alike : (ts : List Table) (listed : List (List RowNumber)) (i : ℕ) (was now : ℕ → Bool) → AreListed ts listed → i < length listed
    → ((n : ℕ) → n ≢ i → now n ≡ was n) → All (RelatedAt Equal ts was now) (rows_at listed i) → TablesRelated Equal ts was now
rest_alike ts listed i was now are lt others here t tc row rc =
    ⊎_elim
    (λ (m : Mentions t row i).
    let at : RowNumber = record { table = tc.0; row = rc.0 } in
    let it = read_at ts t tc in
    let its = read_at t.rows.items row rc in
    let c = are tc.0 t it rc.0 row its i lt m in
    subst (RelatedAt Equal ts was now) c.2 (here c.0 at c.1) t row it its)
    (λ (a : Agree now was t.marks.items row). λ owned. sym (said_same now was t.marks.items row a owned))
    (mentions_or_agrees t i was now others row)

-- the rules of a place change nothing beside what is kept
pub enough_by : (ts : List Table) (listed : List (List RowNumber)) (count i : ℕ) (b : Beside) → Keeps count i b → AreListed ts listed → i < length listed
    → All (RelatedAt Equal ts (marked b.gone.items) (marked b.but.items)) (rows_at listed i) → ChangesNothing (TablesRelated Equal ts) i (marked b.gone.items)
enough_by ts listed count i b keeps are lt here =
    let g = marked b.gone.items in
    related_alike Equal ts g (marked b.but.items) g (but_one i g) (λ n. refl) keeps.pair
    (rest_alike ts listed i g (marked b.but.items) are lt (λ n ne. keeps.pair n ∙ stays_so (g n) (n == i) (apart n i ne)) here)

-- they change something
pub changes_by : (ts : List Table) (count i : ℕ) (b : Beside) → Keeps count i b → (TablesRelated Equal ts (marked b.gone.items) (marked b.but.items) → ⊥)
    → ChangesNothing (TablesRelated Equal ts) i (marked b.gone.items) → ⊥
changes_by ts count i b keeps differs h =
    let g = marked b.gone.items in
    differs (related_alike Equal ts g (but_one i g) g (marked b.but.items) (λ n. refl) (λ n. sym (keeps.pair n)) h)

-- ---- rules of one place alone

none_gathered : {M : Type 0} (join : M → M → M) (none : M) (f : RuleMark → M) → join none none ≡ none → ((m : RuleMark) → f m ≡ none) → (ms : List RuleMark) → gather join none f ms ≡ none
none_gathered join none f unit all [] = refl
none_gathered {M} join none f unit all (m ∷ ms) =
    ap (λ (x : M). join x (gather join none f ms)) (all m) ∙ ap (join none) (none_gathered join none f unit all ms) ∙ unit

abbrev all_gone : ℕ → Bool
all_gone n = true

cond_same : {X : Type 0} (b : Bool) (x : X) → cond b x x ≡ x
cond_same true x = refl
cond_same false x = refl

no_sets : (owned : Bool) (m : RuleMark) → sets_of all_gone owned m ≡ nothing
no_sets owned m = cond_same (owned || not m.mark.owner) nothing

no_choices : (literal owned : Bool) (m : RuleMark) → choice_of all_gone literal owned m ≡ no_choice
no_choices literal owned m = at (is_sort literal m) (owned || not m.mark.owner) (not m.mark.deny && is_some m.mark.way)
  where
    at : (a b c : Bool) → cond a (cond b (cond c no_choice no_choice) no_choice) no_choice ≡ no_choice
    at true true true = refl
    at true true false = refl
    at true false c = refl
    at false b c = refl

abbrev says_nothing : Saying
says_nothing = record { rights = rights nothing; chosen = no_choice }

none_says : (owned : Bool) (ms : List RuleMark) → said_by all_gone owned ms ≡ says_nothing
none_says owned ms =
    let sets = none_gathered both nothing (sets_of all_gone owned) refl (no_sets owned) ms in
    let literal = none_gathered earlier no_choice (choice_of all_gone true owned) refl (no_choices true owned) ms in
    let any = none_gathered earlier no_choice (choice_of all_gone false owned) refl (no_choices false owned) ms in
    ap (λ (v : RuleSets). let s : Saying = record { rights = rights v; chosen = led (has_exec v.deny) (chosen_by all_gone owned ms) } in s) sets
    ∙ ap (λ (l : Chosen). let s : Saying = record { rights = rights nothing; chosen = led (has_exec nothing.deny) (choose l (choice_by all_gone false owned ms)) } in s) literal
    ∙ ap (λ (a : Chosen). let s : Saying = record { rights = rights nothing; chosen = led (has_exec nothing.deny) (choose no_choice a) } in s) any

nothing_within : (s : Saying) → Within says_nothing s
nothing_within s = ((and_zero_l s.rights.granted.0, and_zero_l s.rights.denied.0), inl refl)

-- what the rules of one place say is said where no row with marks of it denies that
pub rest_within : (ts : List Table) (listed : List (List RowNumber)) (i : ℕ) (one gone : ℕ → Bool) → AreListed ts listed → i < length listed
    → ((n : ℕ) → one n ≡ others_than i n) → All (RelatedAt Within ts one gone) (rows_at listed i) → TablesRelated Within ts one gone
rest_within ts listed i one gone are lt is here t tc row rc =
    ⊎_elim
    (λ (m : Mentions t row i).
    let at : RowNumber = record { table = tc.0; row = rc.0 } in
    let it = read_at ts t tc in
    let its = read_at t.rows.items row rc in
    let c = are tc.0 t it rc.0 row its i lt m in
    subst (RelatedAt Within ts one gone) c.2 (here c.0 at c.1) t row it its)
    (λ (a : Agree one all_gone t.marks.items row). λ owned.
    let ms = t.marks.items in
    subst (λ (s : Saying). Within s (said_by gone owned (picked ms row))) (sym (said_same one all_gone ms row a owned ∙ none_says owned (picked ms row)))
    (nothing_within (said_by gone owned (picked ms row))))
    (mentions_or_agrees t i all_gone one (λ n ne. is n ∙ ap not (apart n i ne)) row)

-- ---- all that share a row with the rules of a place are left

module _ (g o : ℕ → Bool) (marks : List RuleMark) where
  agree_by : (row : List ℕ) → ((n : ℕ) (m : RuleMark) → Contains row n → slice_get marks n ≡ Some m → g m.rule ≡ o m.rule) → Agree g o marks row
  agree_by [] all = tt
  agree_by (n ∷ ns) all = (at (slice_get marks n) refl, agree_by ns (λ k m c e. all k m (in_tail n k ns c) e))
    where
      at : (x : Option RuleMark) → slice_get marks n ≡ x → AgreeAt g o marks x
      at None e = tt
      at (Some m) e = all n m (in_head n ns) e

pub kept_enough : (ts : List Table) (listed : List (List RowNumber)) (count i : ℕ) (b : Beside) → Keeps count i b → marked b.gone.items i ≡ true → AreListed ts listed → i < length listed
    → All (KeptAt b.gone.items i ts) (rows_at listed i) → SameTables ts (only i) → ChangesNothing (TablesRelated Equal ts) i (marked b.gone.items)
kept_enough ts listed count i b keeps asked are lt kept goes t tc row rc =
    let flags = marked b.gone.items in
    let ms = t.marks.items in
    ⊎_elim
    (λ (m : Mentions t row i). λ owned.
    let at : RowNumber = record { table = tc.0; row = rc.0 } in
    let it = read_at ts t tc in
    let its = read_at t.rows.items row rc in
    let c = are tc.0 t it rc.0 row its i lt m in
    let here : RowKept b.gone.items i ms row = subst (KeptAt b.gone.items i ts) c.2 (kept c.0 at c.1) t row it its in
    let one : (n : ℕ) (k : RuleMark) → Contains row n → slice_get ms n ≡ Some k → flags k.rule ≡ only i k.rule = λ n k there read.
    ⊎_elim (λ (y : ((k.rule == i) ≡ true) × (k.rule ≡ i)). subst (λ (x : ℕ). flags x ≡ true) (sym y.1) asked ∙ sym y.0)
    (λ (z : ((k.rule == i) ≡ false) × (k.rule ≢ i)). here n k there read z.1 ∙ sym z.0) (eqb_tells k.rule i) in
    let all : (n : ℕ) (k : RuleMark) → Contains row n → slice_get ms n ≡ Some k → but_one i flags k.rule ≡ none_gone k.rule = λ n k there read.
    ⊎_elim (λ (y : ((k.rule == i) ≡ true) × (k.rule ≡ i)). but_none (flags k.rule) (k.rule == i) (inr y.0))
    (λ (z : ((k.rule == i) ≡ false) × (k.rule ≢ i)). but_none (flags k.rule) (k.rule == i) (inl (here n k there read z.1))) (eqb_tells k.rule i) in
    said_same flags (only i) ms row (agree_by flags (only i) ms row one) owned ∙ goes t tc row rc owned ∙ sym (said_same (but_one i flags) none_gone ms row (agree_by (but_one i flags) none_gone ms row all) owned))
    (λ (a : Agree (but_one i flags) flags ms row). λ owned. sym (said_same (but_one i flags) flags ms row a owned))
    (mentions_or_agrees t i flags (but_one i flags) (λ n ne. stays_so (flags n) (n == i) (apart n i ne)) row)
  where
    but_none : (g e : Bool) → (g ≡ false) ⊎ (e ≡ true) → (g && not e) ≡ false
    but_none true true h = refl
    but_none true false h = ⊎_elim (λ (p : true ≡ false). p) (λ (q : false ≡ true). sym q) h
    but_none false e h = refl

-- ---- one more is kept

pub all_more : {X : Type 0} (P : X → Type 0) (xs : List X) (k : ℕ) (d : X) → k < length xs → All P (take k xs) → P (get_or xs k d) → All P (take (k + 1) xs)
all_more {X} P xs k d lt all here = subst (All P) (sym (take_more xs k d lt)) (All-push P (take k xs) (get_or xs k d) all here)

pub row_more : (i k : ℕ) (marks : List RuleMark) (row : List ℕ) (b c : Beside) → k < length row → RowKept b.gone.items i marks (take k row) → StayKept b c
    → ((m : RuleMark) → slice_get marks (get_or row k 0) ≡ Some m → m.rule ≢ i → marked c.gone.items m.rule ≡ false) → RowKept c.gone.items i marks (take (k + 1) row)
row_more i k marks row b c lt before stay here n m there read ne =
    let x = get_or row k 0 in
    ⊎_elim (λ (d : Contains (take k row) n). stay m.rule (before n m d read ne)) (λ (e : x ≡ n). here m (ap (slice_get marks) e ∙ read) ne)
    (Contains-push_cases (take k row) x n (subst (λ (l : List ℕ). Contains l n) (take_more row k 0 lt) there))

pub still_kept : (i : ℕ) (ts : List Table) (b c : Beside) → StayKept b c → (at : RowNumber) → KeptAt b.gone.items i ts at → KeptAt c.gone.items i ts at
still_kept i ts b c stay at h t row it its n m there read ne = stay m.rule (h t row it its n m there read ne)

-- ---- a reason

-- what is kept is all that isn't gone
pub left_is : (count i : ℕ) (b : Beside) (left : List ℕ) → Keeps count i b → left ≡ filter (λ n. not (marked b.gone.items n)) b.kept.items
    → (n : ℕ) → is_one_of left n ≡ (not (marked b.gone.items n) && is_one_of b.kept.items n)
left_is count i b left keeps e n =
    ap (λ (ns : List ℕ). is_one_of ns n) e
    ∙ any-filter_same (λ (m : ℕ). n == m) (λ (m : ℕ). not (marked b.gone.items m)) (not (marked b.gone.items n))
    (λ m h. ap (λ (k : ℕ). not (marked b.gone.items k)) (sym (eqb-true n m h))) b.kept.items

module _ (ts : List Table) (count i : ℕ) (b : Beside) (keeps : Keeps count i b) (r : Reason) (at : r.place ≡ i) (left : r.beside.items ≡ filter (λ n. not (marked b.gone.items n)) b.kept.items) where
  abbrev g : ℕ → Bool
  g = marked b.gone.items

  abbrev all : ℕ → Bool
  all = all_but count r.beside.items

  one_is : (n : ℕ) → is_one_of r.beside.items n ≡ (not (g n) && is_one_of b.kept.items n)
  one_is = left_is count i b r.beside.items keeps left

  among : (x k : Bool) → (x ≡ false → k ≡ true) → x ≡ not (not x && k)
  among true k h = refl
  among false k h = sym (ap not (h refl))

  gone_is : (n : ℕ) → g n ≡ all n
  gone_is n =
      ⊎_elim
      (λ (lt : n < count).
      among (g n) (is_one_of b.kept.items n) (keeps.known n lt) ∙ ap not (sym (one_is n)) ∙ ap (λ (x : Bool). x && not (is_one_of r.beside.items n)) (sym (lt-ltb n count lt)))
      (λ (ge : count ≤ n).
      get_or_past b.gone.items n false (omega (arith, ge, keeps.wide))
      ∙ ⊎_elim (λ (e : nat_lt n count ≡ true). absurd (let h = ltb-true n count e in omega (arith, h, ge)))
      (λ (e : nat_lt n count ≡ false). sym (ap (λ (x : Bool). x && not (is_one_of r.beside.items n)) e)) (cases_Bool (nat_lt n count)))
      (cases_lt n count)

  pub reason_is : ChangesNothing (TablesRelated Equal ts) i g → ((n : ℕ) → is_one_of b.kept.items n ≡ true → IsNeeded (TablesRelated Equal ts) i b.gone.items n)
      → (r.is_covered ≡ true → TablesRelated Within ts (others_than i) g) → (r.is_covered ≡ false → TablesRelated Within ts (others_than i) g → ⊥)
      → IsReason (TablesRelated Equal ts) (TablesRelated Within ts) count r
  reason_is enough needs covered overruled = record {
    there = λ n e. keeps.there n (and_parts (not (g n)) (is_one_of b.kept.items n) (sym (one_is n) ∙ e)).1;
    others = ap (is_one_of r.beside.items) at ∙ one_is i ∙ ap (λ (x : Bool). not (g i) && x) keeps.others ∙ and_no (not (g i));
    suffice = subst (λ (k : ℕ). ChangesNothing (TablesRelated Equal ts) k all) (sym at)
        (related_alike Equal ts g (but_one i g) all (but_one i all) gone_is (λ n. ap (λ (x : Bool). x && not (n == i)) (gone_is n)) enough);
    needed = λ n e h.
        let p = and_parts (not (g n)) (is_one_of b.kept.items n) (sym (one_is n) ∙ e) in
        needs n p.1 (not-true (g n) p.0)
        (related_alike Equal ts (and_one n all) (but_one i (and_one n all)) (and_one n g) (but_one i (and_one n g))
        (λ m. ap (λ (x : Bool). x || m == n) (sym (gone_is m))) (λ m. ap (λ (x : Bool). (x || m == n) && not (m == i)) (sym (gone_is m)))
        (subst (λ (k : ℕ). ChangesNothing (TablesRelated Equal ts) k (and_one n all)) at h));
    covered = λ e. subst (λ (k : ℕ). TablesRelated Within ts (others_than k) all) (sym at) (related_alike Within ts (others_than i) g (others_than i) all (λ n. refl) gone_is (covered e));
    overruled = λ e h.
        overruled e (related_alike Within ts (others_than i) all (others_than i) g (λ n. refl) (λ n. sym (gone_is n)) (subst (λ (k : ℕ). TablesRelated Within ts (others_than k) all) at h));
  }
    where
      and_no : (x : Bool) → (x && false) ≡ false
      and_no true = refl
      and_no false = refl

-- ---- reasons by tables are reasons by rules

module _ (ts : List Table) (A W : (ℕ → Bool) → (ℕ → Bool) → Type 0) (alike : AllDecide Equal ts A) (within : AllDecide Within ts W) where
  is_reason_by : (count : ℕ) (r : Reason) → IsReason (TablesRelated Equal ts) (TablesRelated Within ts) count r → IsReason A W count r
  is_reason_by count r h =
      let all = all_but count r.beside.items in record {
        there = h.there;
        others = h.others;
        suffice = alike.same all (but_one r.place all) h.suffice;
        needed = λ n e s. h.needed n e (alike.told (and_one n all) (but_one r.place (and_one n all)) s);
        covered = λ e. within.same (others_than r.place) all (h.covered e);
        overruled = λ e s. h.overruled e (within.told (others_than r.place) all s);
      }

  pub reasons_by : (flags : List Bool) (rs : List Reason) → AreReasons (TablesRelated Equal ts) (TablesRelated Within ts) flags rs → AreReasons A W flags rs
  reasons_by flags rs h = record {
    places = h.places;
    each = All-weaker (IsReason (TablesRelated Equal ts) (TablesRelated Within ts) (length flags)) (IsReason A W (length flags)) (is_reason_by (length flags)) rs h.each;
  }
