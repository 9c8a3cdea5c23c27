-- The marks of records are where their signs are.
use Rattle.std.proofs.Common.{◌≡◌, ℕ, zero, suc, ◌+◌, ◌-◌, ◌<◌, ◌≤◌, Bool, true, false, ◌||◌, ◌&&◌, List, [], ◌∷◌}
use Rattle.std.proofs.Common.{◌++◌, length, drop, get_or, cond, refl, sym, ◌∙◌, ap, subst, arith, inl, inr, Option, Some, None}
use Rattle.std.specs.Prelude.{codes, nat_eq, nat_le, is_some, option_map}
use Rattle.std.specs.List.{starts_with}
use Rattle.std.proofs.lemmas.Bool.{cases_lt, le-leb, and_parts}
use Rattle.std.proofs.lemmas.Bool.Decides.{Decides-eqb}
use Rattle.std.proofs.lemmas.List.{length-drop, length-append, get_or_append_left, get_or-drop}
use Rattle.std.proofs.lemmas.Slice.Eq.{starts_is}
use Rattle.memchr.specs.Find.{Nowhere, NoneBefore, Passes, is_byte}
use Rattle.aa_logs.specs.Fields.{place_of}
use Rattle.aa_logs.specs.Records.{holds_part, is_mark_at, has_mark_at, is_record}
use Rattle.aa_logs.proofs.Cutting.{not_true}

-- a part that stands nowhere, and one that stands somewhere
place_none : (part t : List ℕ) → ((k : ℕ) → starts_with nat_eq (drop k t) part ≡ false) → place_of part t ≡ None
unfolding place_of
place_none part [] h = refl
place_none part (b ∷ bs) h =
    ap (λ (t : Bool). cond t (Some 0) (option_map (λ n. n + 1) (place_of part bs))) (h 0)
    ∙ ap (option_map (λ n. n + 1)) (place_none part bs (λ k. h (suc k)))

either_place : (t : Bool) (o : Option ℕ) → is_some o ≡ true → is_some (cond t (Some 0) (option_map (λ n. n + 1) o)) ≡ true
either_place true o h = refl
either_place false None h = absurd cc
either_place false (Some n) h = refl

place_some : (part t : List ℕ) (k : ℕ) → k < length t → starts_with nat_eq (drop k t) part ≡ true → is_some (place_of part t) ≡ true
unfolding place_of
place_some part [] k lt h = absurd (omega arith)
place_some part (b ∷ bs) zero lt h = ap (λ (t : Bool). is_some (cond t (Some 0) (option_map (λ n. n + 1) (place_of part bs)))) h
place_some part (b ∷ bs) (suc k) lt h = either_place (starts_with nat_eq (b ∷ bs) part) (place_of part bs) (place_some part bs k (omega arith) h)

-- where a text begins with a part, it has the part's bytes
reads : (s part : List ℕ) (j : ℕ) → starts_with nat_eq s part ≡ true → j < length part → (j < length s) × (get_or s j 0 ≡ get_or part j 0)
reads s part j h lt =
    let is : s ≡ part ++ drop (length part) s = (starts_is Decides-eqb s part true (sym h)).0 refl in
    let long : length s ≡ length part + length (drop (length part) s) = ap length is ∙ length-append part (drop (length part) s) in
    (omega (arith, long), ap (λ (l : List ℕ). get_or l j 0) is ∙ get_or_append_left part (drop (length part) s) 0 j lt)

-- a mark doesn't stand where its sign doesn't
no_sign : (mark : List ℕ) (sign : ℕ) (line : List ℕ) (k : ℕ) → sign < length mark → get_or mark sign 0 ≡ 61
    → (k + sign < length line → get_or line (k + sign) 0 ≡ 61 → ⊥) → starts_with nat_eq (drop k line) mark ≡ false
no_sign mark sign line k lt is fails =
    not_true (starts_with nat_eq (drop k line) mark) (λ holds.
    let r = reads (drop k line) mark sign holds lt in
    fails (omega (arith, r.0, length-drop k line)) (sym (get_or-drop k line sign 0) ∙ r.1 ∙ is))

-- a mark stands nowhere with its sign before a place
abbrev pub Misses : List ℕ → ℕ → List ℕ → ℕ → Type 0
Misses mark sign line from = (k : ℕ) → k + sign < from → starts_with nat_eq (drop k line) mark ≡ false

pub record NoMark (line : List ℕ) (from : ℕ) : Type 0 where
  pub within : from ≤ length line
  pub word : Misses (codes "apparmor=\"") 8 line from
  pub number : Misses (codes "type=15") 4 line from
  pub name : Misses (codes "type=APPARMOR") 4 line from
  pub unknown : Misses (codes "type=UNKNOWN[15") 4 line from

-- what a search for a sign in the rest of a line gives
abbrev pub Ends : List ℕ → Type 0
Ends rest = Nowhere (Passes (is_byte 61) rest) 0 (length rest)

rest_read : (line : List ℕ) (from at : ℕ) → from ≤ at → get_or (drop from line) (at - from) 0 ≡ get_or line at 0
rest_read line from at le = let e : from + (at - from) ≡ at = omega arith in get_or-drop from line (at - from) 0 ∙ ap (λ (n : ℕ). get_or line n 0) e

equal_so : (x : ℕ) → x ≡ 61 → is_byte 61 x ≡ true
equal_so x e = ap (is_byte 61) e

at_sign : (p q : Bool) → (p ≡ true) → (p && q) ≡ false → q ≡ false
at_sign true q h fails = fails
at_sign false q h fails = absurd cc

step : (mark : List ℕ) (sign : ℕ) (line : List ℕ) (from before : ℕ) → from ≤ length line → sign < length mark → get_or mark sign 0 ≡ 61
    → Nowhere (Passes (is_byte 61) (drop from line)) 0 before → is_mark_at mark sign line (from + before) ≡ false
    → Misses mark sign line from → Misses mark sign line (from + before + 1)
step mark sign line from before within lt is none fails so_far k less =
    elim (cases_lt (k + sign) from) [
      | inl earlier ↦ so_far k earlier
      | inr le ↦ (elim (cases_lt (k + sign) (from + before)) [
        | inl between ↦ no_sign mark sign line k lt is (λ inside e.
            none (k + sign - from) (omega arith) (omega arith) (equal_so _ (rest_read line from (k + sign) le ∙ e)))
        | inr there ↦
            let e : from + before ≡ k + sign = omega arith in
            let low : nat_le sign (from + before) ≡ true = le-leb sign (from + before) (omega arith) in
            let back : from + before - sign ≡ k = omega arith in
            subst (λ (n : ℕ). starts_with nat_eq (drop n line) mark ≡ false) back (at_sign _ _ low fails)
      ])
    ]

all_missed : (mark : List ℕ) (sign : ℕ) (line : List ℕ) (from : ℕ) → sign < length mark → get_or mark sign 0 ≡ 61 → Ends (drop from line)
    → Misses mark sign line from → holds_part mark line ≡ false
all_missed mark sign line from lt is none so_far =
    ap is_some (place_none mark line (λ k. elim (cases_lt (k + sign) from) [
      | inl earlier ↦ so_far k earlier
      | inr le ↦ no_sign mark sign line k lt is (λ inside e.
          none (k + sign - from) (omega arith) (omega (arith, length-drop from line)) (equal_so _ (rest_read line from (k + sign) le ∙ e)))
    ]))

found : (mark : List ℕ) (sign : ℕ) (line : List ℕ) (at : ℕ) → at < length line → is_mark_at mark sign line at ≡ true
    → holds_part mark line ≡ true
found mark sign line at lt holds = place_some mark line (at - sign) (omega arith) (and_parts (nat_le sign at) _ holds).1

-- tests of which none holds, and one does
none_of : (p q r s : Bool) → (p || q || r || s) ≡ false → (p ≡ false) × (q ≡ false) × (r ≡ false) × (s ≡ false)
none_of true q r s h = absurd cc
none_of false true r s h = absurd cc
none_of false false true s h = absurd cc
none_of false false false true h = absurd cc
none_of false false false false h = (refl, refl, refl, refl)

yes_right : (p q : Bool) → q ≡ true → (p || q) ≡ true
yes_right true q h = refl
yes_right false q h = h

either : (p q r s : Bool) → (p ≡ true → r ≡ true) → (q ≡ true → s ≡ true) → (p || q) ≡ true → (r || s) ≡ true
either true q r s f g h = ap (λ (b : Bool). b || s) (f refl)
either false q r s f g h = yes_right r s (g h)

neither : (p q : Bool) → p ≡ false → q ≡ false → (p || q) ≡ false
neither p q e f = ap (λ (b : Bool). b || q) e ∙ f

-- no mark stands before a line's first byte
pub none_before : (line : List ℕ) → NoMark line 0
none_before line = record {
  within = omega arith;
  word = λ k less. absurd (omega arith);
  number = λ k less. absurd (omega arith);
  name = λ k less. absurd (omega arith);
  unknown = λ k less. absurd (omega arith);
}

-- a sign at which no mark stands is passed over
pub none_more : (line rest : List ℕ) (from before : ℕ) → rest ≡ drop from line → NoneBefore (Passes (is_byte 61) rest) 0 (length rest) before
    → has_mark_at line (from + before) ≡ false → NoMark line from → NoMark line (from + (before + 1))
none_more line rest from before is first fails so_far =
    let none = subst (λ (l : List ℕ). Nowhere (Passes (is_byte 61) l) 0 before) is first.before in
    let word = codes "apparmor=\"" in
    let number = codes "type=15" in
    let name = codes "type=APPARMOR" in
    let unknown = codes "type=UNKNOWN[15" in
    let at = from + before in
    let each = none_of (is_mark_at word 8 line at) (is_mark_at number 4 line at) (is_mark_at name 4 line at) (is_mark_at unknown 4 line at) fails in
    let inside : before < length (drop from line) = subst (λ (l : List ℕ). before < length l) is first.high in
    let onward : from + before + 1 ≡ from + (before + 1) = omega arith in
    subst (NoMark line) onward (record {
      within = omega (arith, length-drop from line);
      word = step word 8 line from before so_far.within (omega arith) refl none each.0 so_far.word;
      number = step number 4 line from before so_far.within (omega arith) refl none each.1 so_far.number;
      name = step name 4 line from before so_far.within (omega arith) refl none each.2 so_far.name;
      unknown = step unknown 4 line from before so_far.within (omega arith) refl none each.3 so_far.unknown;
    })

-- behind the last sign there is none
pub no_record : (line rest : List ℕ) (from : ℕ) → rest ≡ drop from line → Ends rest → NoMark line from → false ≡ is_record line
no_record line rest from is ends so_far =
    let none = subst Ends is ends in
    sym (neither _ _ (neither _ _ (neither _ _
    (all_missed _ 8 line from (omega arith) refl none so_far.word)
    (all_missed _ 4 line from (omega arith) refl none so_far.number))
    (all_missed _ 4 line from (omega arith) refl none so_far.name))
    (all_missed _ 4 line from (omega arith) refl none so_far.unknown))

-- a mark that stands at a sign stands in the line
pub a_record : (line : List ℕ) (at : ℕ) → at < length line → has_mark_at line at ≡ true → true ≡ is_record line
a_record line at lt holds =
    sym (either _ _ _ _ (either _ _ _ _ (either _ _ _ _ (found _ 8 line at lt) (found _ 4 line at lt)) (found _ 4 line at lt)) (found _ 4 line at lt) holds)

-- a sign that is found is one of the line's bytes
pub sign_within : (line rest : List ℕ) (from before : ℕ) → rest ≡ drop from line → NoneBefore (Passes (is_byte 61) rest) 0 (length rest) before
    → from + before < length line
sign_within line rest from before is first =
    let inside : before < length (drop from line) = subst (λ (l : List ℕ). before < length l) is first.high in
    omega (arith, length-drop from line)
