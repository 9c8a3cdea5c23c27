-- A report, once it has taken a line more.
use Rattle.std.proofs.Common.{◌≡◌, ℕ, ◌+◌, ◌<◌, List, [], ◌∷◌, ◌++◌, length, map, Bool, true, false, cond, not, ◌&&◌, Option, Some, None, refl, sym, ap, subst, ◌∙◌, arith, append-nil, inl, inr}
use Rattle.std.specs.Prelude.{min, flat_map, count_by, is_some, is_none, option_map, ◌==◌}
use Rattle.std.specs.List.{filter}
use Rattle.std.proofs.lemmas.List.{length-append, length-map}
use Rattle.std.proofs.lemmas.List.Elements.{filter-append}
use Rattle.std.proofs.lemmas.List.Sums.{sum_by_push}
use Rattle.std.proofs.lemmas.List.Concat.{flat_map-append}
use Rattle.std.proofs.lemmas.Bool.{cases_Bool, not-false}
use Rattle.aa_logs.specs.declared.chosen.Choice.{Choice}
use Rattle.aa_logs.specs.declared.line.Line.{Line}
use Rattle.aa_logs.specs.declared.line.Line.TheVariants as line
use Rattle.aa_logs.specs.Asked.{Cause}
use Rattle.aa_logs.specs.Outcomes.{Outcome, Another, AsksNothing, AsksFor, RecordData, outcome}
use Rattle.aa_logs.specs.Records.{line_in}
use Rattle.aa_logs.specs.Chosen.{is_among, is_chosen}
use Rattle.aa_logs.specs.LogLines.{LogLine}
use Rattle.aa_messages.specs.Unclear.{is_another}
use Rattle.aa_log.specs.declared.logging.LinePlace.{LinePlace}
use Rattle.aa_log.specs.declared.logging.LogReport.{LogReport}
use Rattle.aa_log.specs.Counted.{greatest, firsts, counted}
use Rattle.aa_log.specs.Found.{Asked, Skipped, place_of, asked_at, asked_by, asked_key, skipped_by, skipped_for, skipped_key, skipped_data}
use Rattle.aa_log.specs.Found.{is_wanted, wants_all, wanted, requests_in, skipped_in, others_in, left_in, left_out_of, distinct_in, AreFound, AreEach, IsReport}
use Rattle.aa_log.proofs.Counting.{one_more}

-- a choice that names no profile and no time takes each line
and_left : (a b : Bool) → (a && b) ≡ true → a ≡ true
and_left true b e = refl
and_left false b e = absurd (cc)

and_right : (a b : Bool) → (a && b) ≡ true → b ≡ true
and_right true b e = e
and_right false b e = absurd (cc)

among_all : (names : List (List ℕ)) (name : Option (List ℕ)) → (length names == 0) ≡ true → is_among names name ≡ true
among_all names None e = e
among_all names (Some n) e = rw e refl

chosen_all : (names : List (List ℕ)) (since until : Option ℕ) (bytes : List ℕ) → (length names == 0) ≡ true → (is_none since && is_none until) ≡ true → is_chosen names since until bytes ≡ true
unfolding is_chosen
chosen_all names since until bytes none whenever = rw (among_all names _ none) (rw whenever refl)

wants_each : (c : Choice) (bytes : List ℕ) → wants_all c ≡ true → is_wanted c bytes ≡ true
wants_each c bytes all =
    let names : List (List ℕ) = map (λ n. n.items) c.profiles.now in
    let none : (length c.profiles.now == 0) ≡ true = and_left _ _ (and_left _ _ all) in
    let since : is_none c.since ≡ true = and_right _ _ (and_left _ _ all) in
    let until : is_none c.until ≡ true = and_right _ _ all in
    let whenever : (is_none c.since && is_none c.until) ≡ true = rw since until in
    chosen_all names c.since c.until bytes (ap (λ (n : ℕ). n == 0) (length-map c.profiles.now (λ n. n.items)) ∙ none) whenever

-- a line that isn't left out is wanted
pub wanted_in : (c : Choice) (n : ℕ) (bytes : List ℕ) (count : Option ℕ) (left : Bool) → count ≡ left_out_of c n → left ≡ false → left ≡ (is_some count && not (is_wanted c bytes)) → is_wanted c bytes ≡ true
wanted_in c n bytes count left count_is stays left_is = elim (cases_Bool (wants_all c)) [
  | inl all ↦ wants_each c bytes all
  | inr some ↦ (let counts : is_some count ≡ true = ap is_some (count_is ∙ ap (λ (b : Bool). cond b None (Some (min n greatest))) some) in
      not-false (is_wanted c bytes) (sym (ap (λ (b : Bool). b && not (is_wanted c bytes)) counts) ∙ sym left_is ∙ stays))
]

-- one that is left out isn't
unwanted_in : (s t : Bool) → (s && not t) ≡ true → t ≡ false
unwanted_in true true e = absurd (cc)
unwanted_in true false e = refl
unwanted_in false t e = absurd (cc)

not_another : (found : Line) → (found ≡ line.Other → ⊥) → is_another (outcome found) ≡ false
not_another line.Other other = absurd (other refl)
not_another (line.Skipped r) other = refl
not_another (line.Asks r) other = refl

cond_nil : {A : Type 0} (w : Bool) → cond {A = List A} w [] [] ≡ []
cond_nil true = refl
cond_nil false = refl

module _ {A : Type 0} where
  added : (q : LogLine → Bool) (f : LogLine → List A) (ls : List LogLine) (l : LogLine) → flat_map f (filter q (ls ++ l ∷ [])) ≡ flat_map f (filter q ls) ++ cond (q l) (f l) []
  added q f ls l =
      ap (flat_map f) (filter-append q ls (l ∷ [])) ∙ flat_map-append f (filter q ls) (filter q (l ∷ []))
      ∙ ap (λ (more : List A). flat_map f (filter q ls) ++ more) ((elim (q l) as (λ w. flat_map f (cond w (l ∷ []) []) ≡ cond w (f l) []) [ true ↦ append-nil (f l) | false ↦ refl ]))

requests_as : (c : Choice) (ls : List LogLine) (l : LogLine) (o : Outcome) (w : Bool) → line_in l.bytes ≡ o → is_wanted c l.bytes ≡ w → requests_in c (ls ++ l ∷ []) ≡ requests_in c ls ++ cond w (asked_by l o) []
unfolding requests_in
requests_as c ls l o w is wants =
    added (λ (l : LogLine). is_wanted c l.bytes) (λ (l : LogLine). asked_by l (line_in l.bytes)) ls l
    ∙ ap (λ (b : Bool). flat_map (λ (l : LogLine). asked_by l (line_in l.bytes)) (wanted c ls) ++ cond b (asked_by l (line_in l.bytes)) []) wants
    ∙ ap (λ (x : Outcome). flat_map (λ (l : LogLine). asked_by l (line_in l.bytes)) (wanted c ls) ++ cond w (asked_by l x) []) is

skipped_as : (c : Choice) (ls : List LogLine) (l : LogLine) (o : Outcome) (w : Bool) → line_in l.bytes ≡ o → is_wanted c l.bytes ≡ w → skipped_in c (ls ++ l ∷ []) ≡ skipped_in c ls ++ cond w (skipped_by l o) []
unfolding skipped_in
skipped_as c ls l o w is wants =
    added (λ (l : LogLine). is_wanted c l.bytes) (λ (l : LogLine). skipped_by l (line_in l.bytes)) ls l
    ∙ ap (λ (b : Bool). flat_map (λ (l : LogLine). skipped_by l (line_in l.bytes)) (wanted c ls) ++ cond b (skipped_by l (line_in l.bytes)) []) wants
    ∙ ap (λ (x : Outcome). flat_map (λ (l : LogLine). skipped_by l (line_in l.bytes)) (wanted c ls) ++ cond w (skipped_by l x) []) is

others_as : (ls : List LogLine) (l : LogLine) (b : Bool) → is_another (line_in l.bytes) ≡ b → others_in (ls ++ l ∷ []) ≡ others_in ls + cond b 1 0
unfolding others_in
others_as ls l b is =
    sum_by_push (λ (l : LogLine). cond (is_another (line_in l.bytes)) 1 0) ls l
    ∙ ap (λ (t : Bool). count_by (λ (l : LogLine). is_another (line_in l.bytes)) ls + cond t 1 0) is

left_as : (c : Choice) (ls : List LogLine) (l : LogLine) (b w : Bool) → is_another (line_in l.bytes) ≡ b → is_wanted c l.bytes ≡ w → left_in c (ls ++ l ∷ []) ≡ left_in c ls + cond (not b && not w) 1 0
unfolding left_in
left_as c ls l b w is wants =
    let p : LogLine → Bool = λ l. not (is_another (line_in l.bytes)) && not (is_wanted c l.bytes) in
    sum_by_push (λ (l : LogLine). cond (p l) 1 0) ls l
    ∙ ap (λ (t : Bool). count_by p ls + cond (not t && not (is_wanted c l.bytes)) 1 0) is
    ∙ ap (λ (t : Bool). count_by p ls + cond (not b && not t) 1 0) wants

-- a count of as many and one, and of as many
one_longer : {A : Type 0} (xs : List A) (x : A) (count more : ℕ) → count ≡ min (length xs) greatest → more ≡ min (count + 1) greatest → more ≡ min (length (xs ++ x ∷ [])) greatest
one_longer xs x count more is more_is = more_is ∙ ap (λ (n : ℕ). min (n + 1) greatest) is ∙ sym (one_more (length xs) greatest) ∙ ap (λ (n : ℕ). min n greatest) (sym (length-append xs (x ∷ [])))

none_longer : {A : Type 0} (xs ys : List A) (count : ℕ) → ys ≡ xs → count ≡ min (length xs) greatest → count ≡ min (length ys) greatest
none_longer xs ys count same is = is ∙ ap (λ (x : List _). min (length x) greatest) (sym same)

counted_one : (n m count more : ℕ) → m ≡ n + 1 → count ≡ min n greatest → more ≡ min (count + 1) greatest → more ≡ min m greatest
counted_one n m count more m_is is more_is = more_is ∙ ap (λ (k : ℕ). min (k + 1) greatest) is ∙ sym (one_more n greatest) ∙ ap (λ (k : ℕ). min k greatest) (sym m_is)

counted_none : (n m count : ℕ) → m ≡ n + 0 → count ≡ min n greatest → count ≡ min m greatest
counted_none n m count m_is is = is ∙ ap (λ (k : ℕ). min k greatest) (let same : n ≡ m = omega arith in same)

left_same : (c : Choice) (n m : ℕ) (count : Option ℕ) → m ≡ n + 0 → count ≡ left_out_of c n → count ≡ left_out_of c m
left_same c n m count m_is is = is ∙ ap (left_out_of c) (let same : n ≡ m = omega arith in same)

left_one : (c : Choice) (n m : ℕ) (count : Option ℕ) → m ≡ n + 1 → count ≡ left_out_of c n → option_map (λ k. min (k + 1) greatest) count ≡ left_out_of c m
left_one c n m count m_is is =
    ap (option_map (λ (k : ℕ). min (k + 1) greatest)) is
    ∙ (elim (wants_all c) as (λ w. option_map (λ (k : ℕ). min (k + 1) greatest) (cond w None (Some (min n greatest))) ≡ cond w None (Some (min (n + 1) greatest))) [ true ↦ refl | false ↦ ap Some (sym (one_more n greatest)) ])
    ∙ ap (left_out_of c) (sym m_is)

-- a line that isn't the access control's
pub taken_other : (before : List LogLine) (l : LogLine) (r : LogReport) (lines other : ℕ) → line_in l.bytes ≡ Another → lines ≡ min (r.lines + 1) greatest → other ≡ min (r.other + 1) greatest → IsReport before r
    → IsReport (before ++ l ∷ []) (record r { lines = lines; other = other })
taken_other before l r lines other is lines_is other_is f =
    let c : Choice = r.choice in
    let asked : requests_in c (before ++ l ∷ []) ≡ requests_in c before = requests_as c before l Another (is_wanted c l.bytes) is refl
    ∙ ap (λ (x : List Asked). requests_in c before ++ x) (cond_nil (is_wanted c l.bytes)) ∙ append-nil (requests_in c before) in
    let skipped : skipped_in c (before ++ l ∷ []) ≡ skipped_in c before = skipped_as c before l Another (is_wanted c l.bytes) is refl
    ∙ ap (λ (x : List Skipped). skipped_in c before ++ x) (cond_nil (is_wanted c l.bytes)) ∙ append-nil (skipped_in c before) in
    let another : is_another (line_in l.bytes) ≡ true = ap is_another is in record {
      found = subst (λ (x : List Asked). AreFound x r.entries.items r.numbers) (sym asked) f.found;
      skipped = f.skipped ∙ ap (counted skipped_key) (sym skipped);
      each = subst (λ (x : List Skipped). AreEach x (option_map (λ each. each.items) r.each_skipped)) (sym skipped) f.each;
      lines = one_longer before l r.lines lines f.lines lines_is;
      requests = none_longer (requests_in c before) (requests_in c (before ++ l ∷ [])) r.requests asked f.requests;
      skipped_count = none_longer (skipped_in c before) (skipped_in c (before ++ l ∷ [])) r.skipped_count skipped f.skipped_count;
      other = counted_one (others_in before) (others_in (before ++ l ∷ [])) r.other other (others_as before l true another) f.other other_is;
      left_out = left_same c (left_in c before) (left_in c (before ++ l ∷ [])) r.left_out (left_as c before l true (is_wanted c l.bytes) another refl) f.left_out;
    }

-- a line that isn't wanted
left_of : (before : List LogLine) (l : LogLine) (r : LogReport) (lines : ℕ) → is_another (line_in l.bytes) ≡ false → is_wanted r.choice l.bytes ≡ false → lines ≡ min (r.lines + 1) greatest → IsReport before r
    → IsReport (before ++ l ∷ []) (record r { lines = lines; left_out = option_map (λ n. min (n + 1) greatest) r.left_out })
left_of before l r lines another unwanted lines_is f =
    let c : Choice = r.choice in
    let asked : requests_in c (before ++ l ∷ []) ≡ requests_in c before = requests_as c before l (line_in l.bytes) false refl unwanted ∙ append-nil (requests_in c before) in
    let skipped : skipped_in c (before ++ l ∷ []) ≡ skipped_in c before = skipped_as c before l (line_in l.bytes) false refl unwanted ∙ append-nil (skipped_in c before) in record {
      found = subst (λ (x : List Asked). AreFound x r.entries.items r.numbers) (sym asked) f.found;
      skipped = f.skipped ∙ ap (counted skipped_key) (sym skipped);
      each = subst (λ (x : List Skipped). AreEach x (option_map (λ each. each.items) r.each_skipped)) (sym skipped) f.each;
      lines = one_longer before l r.lines lines f.lines lines_is;
      requests = none_longer (requests_in c before) (requests_in c (before ++ l ∷ [])) r.requests asked f.requests;
      skipped_count = none_longer (skipped_in c before) (skipped_in c (before ++ l ∷ [])) r.skipped_count skipped f.skipped_count;
      other = counted_none (others_in before) (others_in (before ++ l ∷ [])) r.other (others_as before l false another) f.other;
      left_out = left_one c (left_in c before) (left_in c (before ++ l ∷ [])) r.left_out (left_as c before l false false another unwanted) f.left_out;
    }

pub taken_left : (before : List LogLine) (l : LogLine) (r new : LogReport) (lines : ℕ) (found : Line) (left : Bool) → (found ≡ line.Other → ⊥)
    → outcome found ≡ line_in l.bytes → lines ≡ min (r.lines + 1) greatest → left ≡ true
    → left ≡ (is_some r.left_out && not (is_wanted r.choice l.bytes))
    → new ≡ cond left (record r { lines = lines; left_out = option_map (λ n. min (n + 1) greatest) r.left_out }) (record r { lines = lines })
    → IsReport before r → IsReport (before ++ l ∷ []) new
taken_left before l r new lines found left other is lines_is leaves left_is new_is f =
    let out : LogReport = record r { lines = lines; left_out = option_map (λ n. min (n + 1) greatest) r.left_out } in
    let there : new ≡ out = new_is ∙ ap (λ (b : Bool). cond b out (record r { lines = lines })) leaves in
    subst (IsReport (before ++ l ∷ [])) (sym there)
    (left_of before l r lines (ap is_another (sym is) ∙ not_another found other) (unwanted_in (is_some r.left_out) (is_wanted r.choice l.bytes) (sym left_is ∙ leaves)) lines_is f)

-- what is there when a line isn't left out
pub kept_in : (r new : LogReport) (lines : ℕ) (left : Bool) → left ≡ false
    → new ≡ cond left (record r { lines = lines; left_out = option_map (λ n. min (n + 1) greatest) r.left_out }) (record r { lines = lines })
    → new ≡ record r { lines = lines }
kept_in r new lines left stays is = is ∙ ap (λ (b : Bool). cond b (record r { lines = lines; left_out = option_map (λ n. min (n + 1) greatest) r.left_out }) (record r { lines = lines })) stays

-- what is read alike of a report whatever it has counted is what it was
pub same_in : {B : Type 0} (f : LogReport → B) (r new : LogReport) (lines : ℕ) (left : Bool)
    → ((count : Option ℕ) → f (record r { lines = lines; left_out = count }) ≡ f r)
    → new ≡ cond left (record r { lines = lines; left_out = option_map (λ n. min (n + 1) greatest) r.left_out }) (record r { lines = lines })
    → f new ≡ f r
same_in f r new lines true alike is = ap f is ∙ alike (option_map (λ n. min (n + 1) greatest) r.left_out)
same_in f r new lines false alike is = ap f is ∙ alike r.left_out

-- a line that asks nothing
skipped_of : (before : List LogLine) (l : LogLine) (r new : LogReport) (lines : ℕ) (cause : Cause) → line_in l.bytes ≡ AsksNothing cause → is_wanted r.choice l.bytes ≡ true → lines ≡ min (r.lines + 1) greatest
    → new ≡ record r { lines = lines; skipped = new.skipped; each_skipped = new.each_skipped; skipped_count = min (r.skipped_count + 1) greatest }
    → ((b : List Skipped) → map skipped_data r.skipped.items ≡ counted skipped_key b → map skipped_data new.skipped.items ≡ counted skipped_key (b ++ skipped_for cause (place_of l) ∷ []))
    → ((b : List Skipped) → AreEach b (option_map (λ e. e.items) r.each_skipped) → AreEach (b ++ skipped_for cause (place_of l) ∷ []) (option_map (λ e. e.items) new.each_skipped))
    → IsReport before r → IsReport (before ++ l ∷ []) new
skipped_of before l r new lines cause is wants lines_is new_is reasons each f =
    let c : Choice = r.choice in
    let asked : requests_in c (before ++ l ∷ []) ≡ requests_in c before = requests_as c before l (AsksNothing cause) true is wants ∙ append-nil (requests_in c before) in
    let skipped : skipped_in c (before ++ l ∷ []) ≡ skipped_in c before ++ skipped_for cause (place_of l) ∷ [] = skipped_as c before l (AsksNothing cause) true is wants in
    let another : is_another (line_in l.bytes) ≡ false = ap is_another is in
    subst (IsReport (before ++ l ∷ [])) (sym new_is) (record {
      found = subst (λ (x : List Asked). AreFound x r.entries.items r.numbers) (sym asked) f.found;
      skipped = reasons (skipped_in c before) f.skipped ∙ ap (counted skipped_key) (sym skipped);
      each = subst (λ (x : List Skipped). AreEach x (option_map (λ each. each.items) new.each_skipped)) (sym skipped) (each (skipped_in c before) f.each);
      lines = one_longer before l r.lines lines f.lines lines_is;
      requests = none_longer (requests_in c before) (requests_in c (before ++ l ∷ [])) r.requests asked f.requests;
      skipped_count = one_longer (skipped_in c before) (skipped_for cause (place_of l)) r.skipped_count (min (r.skipped_count + 1) greatest) f.skipped_count refl ∙ ap (λ (x : List Skipped). min (length x) greatest) (sym skipped);
      other = counted_none (others_in before) (others_in (before ++ l ∷ [])) r.other (others_as before l false another) f.other;
      left_out = left_same c (left_in c before) (left_in c (before ++ l ∷ [])) r.left_out (left_as c before l false true another wants) f.left_out;
    })

pub taken_skipped : (before : List LogLine) (l : LogLine) (r mid new : LogReport) (lines : ℕ) (cause : Cause) → line_in l.bytes ≡ AsksNothing cause
    → is_wanted r.choice l.bytes ≡ true → lines ≡ min (r.lines + 1) greatest → mid ≡ record r { lines = lines }
    → new ≡ record mid { skipped = new.skipped; each_skipped = new.each_skipped; skipped_count = min (mid.skipped_count + 1) greatest }
    → ((b : List Skipped) → map skipped_data mid.skipped.items ≡ counted skipped_key b → map skipped_data new.skipped.items ≡ counted skipped_key (b ++ skipped_for cause (record { log = mid.log; line = l.number }) ∷ []))
    → ((b : List Skipped) → AreEach b (option_map (λ e. e.items) mid.each_skipped) → AreEach (b ++ skipped_for cause (record { log = mid.log; line = l.number }) ∷ []) (option_map (λ e. e.items) new.each_skipped))
    → r.log ≡ l.log → IsReport before r → IsReport (before ++ l ∷ []) new
taken_skipped before l r mid new lines cause is wants lines_is mid_is new_is reasons each log f =
    let place : record { log = mid.log; line = l.number } ≡ place_of l = ap (λ (n : ℕ). record { log = n; line = l.number }) (ap (λ (x : LogReport). x.log) mid_is ∙ log) in
    let now : new ≡ record r { lines = lines; skipped = new.skipped; each_skipped = new.each_skipped; skipped_count = min (r.skipped_count + 1) greatest } =
    new_is ∙ ap (λ (m : LogReport). record m { skipped = new.skipped; each_skipped = new.each_skipped; skipped_count = min (m.skipped_count + 1) greatest }) mid_is in
    skipped_of before l r new lines cause is wants lines_is now
    (λ b h. reasons b (ap (λ (x : LogReport). map skipped_data x.skipped.items) mid_is ∙ h) ∙ ap (λ (p : LinePlace). counted skipped_key (b ++ skipped_for cause p ∷ [])) place)
    (λ b h. subst (λ (p : LinePlace). AreEach (b ++ skipped_for cause p ∷ []) (option_map (λ e. e.items) new.each_skipped)) place
    (each b (subst (λ (x : LogReport). AreEach b (option_map (λ e. e.items) x.each_skipped)) (sym mid_is) h)))
    f

-- a line that asks something
asks_of : (before : List LogLine) (l : LogLine) (r new : LogReport) (lines : ℕ) (asked : RecordData) → line_in l.bytes ≡ AsksFor asked → is_wanted r.choice l.bytes ≡ true → lines ≡ min (r.lines + 1) greatest
    → new ≡ record r { lines = lines; entries = new.entries; numbers = new.numbers; requests = min (r.requests + 1) greatest }
    → ((b : List Asked) → AreFound b r.entries.items r.numbers → AreFound (b ++ asked_at asked (place_of l) ∷ []) new.entries.items new.numbers)
    → IsReport before r → IsReport (before ++ l ∷ []) new
asks_of before l r new lines asked is wants lines_is new_is found f =
    let c : Choice = r.choice in
    let asks : requests_in c (before ++ l ∷ []) ≡ requests_in c before ++ asked_at asked (place_of l) ∷ [] = requests_as c before l (AsksFor asked) true is wants in
    let skipped : skipped_in c (before ++ l ∷ []) ≡ skipped_in c before = skipped_as c before l (AsksFor asked) true is wants ∙ append-nil (skipped_in c before) in
    let another : is_another (line_in l.bytes) ≡ false = ap is_another is in
    subst (IsReport (before ++ l ∷ [])) (sym new_is) (record {
      found = subst (λ (x : List Asked). AreFound x new.entries.items new.numbers) (sym asks) (found (requests_in c before) f.found);
      skipped = f.skipped ∙ ap (counted skipped_key) (sym skipped);
      each = subst (λ (x : List Skipped). AreEach x (option_map (λ each. each.items) r.each_skipped)) (sym skipped) f.each;
      lines = one_longer before l r.lines lines f.lines lines_is;
      requests = one_longer (requests_in c before) (asked_at asked (place_of l)) r.requests (min (r.requests + 1) greatest) f.requests refl ∙ ap (λ (x : List Asked). min (length x) greatest) (sym asks);
      skipped_count = none_longer (skipped_in c before) (skipped_in c (before ++ l ∷ [])) r.skipped_count skipped f.skipped_count;
      other = counted_none (others_in before) (others_in (before ++ l ∷ [])) r.other (others_as before l false another) f.other;
      left_out = left_same c (left_in c before) (left_in c (before ++ l ∷ [])) r.left_out (left_as c before l false true another wants) f.left_out;
    })

pub taken_asks : (before : List LogLine) (l : LogLine) (r mid new : LogReport) (lines : ℕ) (asked : RecordData) → line_in l.bytes ≡ AsksFor asked
    → is_wanted r.choice l.bytes ≡ true → lines ≡ min (r.lines + 1) greatest → mid ≡ record r { lines = lines }
    → new ≡ record mid { entries = new.entries; numbers = new.numbers; requests = min (mid.requests + 1) greatest }
    → ((b : List Asked) → AreFound b mid.entries.items mid.numbers → AreFound (b ++ asked_at asked (record { log = mid.log; line = l.number }) ∷ []) new.entries.items new.numbers)
    → r.log ≡ l.log → IsReport before r → IsReport (before ++ l ∷ []) new
taken_asks before l r mid new lines asked is wants lines_is mid_is new_is found log f =
    let place : record { log = mid.log; line = l.number } ≡ place_of l = ap (λ (n : ℕ). record { log = n; line = l.number }) (ap (λ (x : LogReport). x.log) mid_is ∙ log) in
    let now : new ≡ record r { lines = lines; entries = new.entries; numbers = new.numbers; requests = min (r.requests + 1) greatest } =
    new_is ∙ ap (λ (m : LogReport). record m { entries = new.entries; numbers = new.numbers; requests = min (m.requests + 1) greatest }) mid_is in
    asks_of before l r new lines asked is wants lines_is now
    (λ b h. subst (λ (p : LinePlace). AreFound (b ++ asked_at asked p ∷ []) new.entries.items new.numbers) place (found b (subst (λ (x : LogReport). AreFound b x.entries.items x.numbers) (sym mid_is) h)))
    f

-- a line that asks one request too many
pub many_in : (before : List LogLine) (l : LogLine) (r mid : LogReport) (lines : ℕ) (asked : RecordData) → line_in l.bytes ≡ AsksFor asked → is_wanted r.choice l.bytes ≡ true → mid ≡ record r { lines = lines }
    → ((b : List Asked) → AreFound b mid.entries.items mid.numbers → 1000000 < length (firsts asked_key (b ++ asked_at asked (record { log = mid.log; line = l.number }) ∷ [])))
    → r.log ≡ l.log → IsReport before r → 1000000 < distinct_in r.choice (before ++ l ∷ [])
many_in before l r mid lines asked is wants mid_is room log f =
    let c : Choice = r.choice in
    let place : record { log = mid.log; line = l.number } ≡ place_of l = ap (λ (n : ℕ). record { log = n; line = l.number }) (ap (λ (x : LogReport). x.log) mid_is ∙ log) in
    let asks : requests_in c (before ++ l ∷ []) ≡ requests_in c before ++ asked_at asked (place_of l) ∷ [] = requests_as c before l (AsksFor asked) true is wants in
    let all : requests_in c before ++ asked_at asked (record { log = mid.log; line = l.number }) ∷ [] ≡ requests_in c (before ++ l ∷ []) = ap (λ (p : LinePlace). requests_in c before ++ asked_at asked p ∷ []) place ∙ sym asks in
    subst (λ (x : List Asked). 1000000 < length (firsts asked_key x)) all (room (requests_in c before) (subst (λ (x : LogReport). AreFound (requests_in c before) x.entries.items x.numbers) (sym mid_is) f.found))
