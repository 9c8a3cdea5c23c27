-- Rules that conflict, and marks that do.
use Rattle.std.proofs.Common.{◌≡◌, ◌⊎◌, ℕ, ◌<◌, List, [], ◌∷◌, ◌++◌, map, Bool, true, false, true≢false, cond, Option, Some, None}
use Rattle.std.proofs.Common.{refl, sym, ap, ◌∙◌, subst, arith, Contains, get_or, length, suc, zero, inl, inr, ⊎_elim}
use Rattle.std.specs.Prelude.{IsTrue, not, ◌&&◌}
use Rattle.std.specs.List.{slice_get}
use Rattle.std.specs.Option.{option_map, option_and_then}
use Rattle.std.proofs.lemmas.List.{get_or_default}
use Rattle.std.proofs.lemmas.List.Elements.{Contains-append_left, Contains-append_right, Contains-append_cases}
use Rattle.std.proofs.lemmas.Option.{slice_get-map, slice_get-get_or, slice_get_within, get_or_from_slice_get, same_Some}
use Rattle.aa_pattern.specs.declared.pattern.Pattern.{Pattern}
use Rattle.aa_pattern.specs.Globs.{Matches}
use Rattle.aa_model.specs.declared.rule.Exec.{Exec}
use Rattle.aa_model.specs.declared.rule.FileRule.{FileRule}
use Rattle.aa_pattern.specs.Matching.{is_match}
use Rattle.aa_pattern.proofs.Decided.{decided}
use Rattle.aa_auto.specs.Tables.{Table, IsAutomaton, ListsMatching, list_at, list_number, place_of}
use Rattle.aa_compile.specs.declared.mark.Way.{Way}
use Rattle.aa_compile.specs.Patterns.{is_literal}
use Rattle.aa_compile.specs.Marks.{marks_by}
use Rattle.aa_compile.specs.Ways.{numbered}
use Rattle.aa_compile.specs.Rows.{patterns_of, TellsApart}
use Rattle.aa_compile.specs.FileRules.{Conflicts}
use Rattle.aa_compile.specs.Conflicts.{way_if, way_at, HasConflict}
use Rattle.aa_compile.proofs.HitLemmas.{hits_of, mark_of, patterns_are, marks_are}
use Rattle.aa_compile.proofs.MatchedTexts.{matched_text}

pub in_head : {X : Type 0} (x : X) (xs : List X) → Contains (x ∷ xs) x
in_head x xs = (0, omega arith, refl)

pub in_tail : {X : Type 0} (x y : X) (xs : List X) → Contains xs y → Contains (x ∷ xs) y
in_tail x y xs c = (suc c.0, omega (arith, c.1), c.2)

pub in_cases : {X : Type 0} (x y : X) (xs : List X) → Contains (x ∷ xs) y → (x ≡ y) ⊎ Contains xs y
in_cases x y xs c = at c.0 c.1 c.2
  where
    at : (k : ℕ) → k < length (x ∷ xs) → get_or (x ∷ xs) k y ≡ y → (x ≡ y) ⊎ Contains xs y
    at zero lt e = inl e
    at (suc k) lt e = inr (k, omega (arith, lt), e)

pub not_in : {X : Type 0} (y : X) → Contains [] y → ⊥
not_in y c = omega (arith, c.1)

abbrev pub pair : FileRule → Pattern → FileRule × Pattern
pair r p = (r, p)

module _ (r : FileRule) where
  to_pairs : (p : Pattern) (ps : List Pattern) → Contains ps p → Contains (map (pair r) ps) (pair r p)
  to_pairs p [] c = absurd (not_in p c)
  to_pairs p (q ∷ ps) c =
      ⊎_elim
      (λ (e : q ≡ p). subst (λ x. Contains ((pair r q) ∷ map (pair r) ps) (pair r x)) e (in_head (pair r q) (map (pair r) ps)))
      (λ (d : Contains ps p). in_tail (pair r q) (pair r p) (map (pair r) ps) (to_pairs p ps d))
      (in_cases q p ps c)

  from_pairs : (h : FileRule × Pattern) (ps : List Pattern) → Contains (map (pair r) ps) h → (r ≡ h.0) × Contains ps h.1
  from_pairs h [] c = absurd (not_in h c)
  from_pairs h (q ∷ ps) c =
      ⊎_elim
      (λ (e : (pair r q) ≡ h). let a : r ≡ h.0 = ap (λ (x : FileRule × Pattern). x.0) e in let b : q ≡ h.1 = ap (λ (x : FileRule × Pattern). x.1) e in (a, subst (λ x. Contains (q ∷ ps) x) b (in_head q ps)))
      (λ (d : Contains (map (pair r) ps) h). let t = from_pairs h ps d in (t.0, in_tail q h.1 ps t.1))
      (in_cases (pair r q) h (map (pair r) ps) c)

pub hit_in : (rules : List FileRule) (r : FileRule) (p : Pattern) → Contains rules r → Contains r.patterns p → Contains (hits_of rules) (pair r p)
hit_in [] r p c d = absurd (not_in r c)
hit_in (q ∷ rules) r p c d =
    ⊎_elim
    (λ (e : q ≡ r). subst (λ (x : FileRule). Contains (map (pair x) x.patterns ++ hits_of rules) (pair r p)) (sym e) (Contains-append_left (map (pair r) r.patterns) (hits_of rules) (pair r p) (to_pairs r p r.patterns d)))
    (λ (t : Contains rules r). Contains-append_right (map (pair q) q.patterns) (hits_of rules) (pair r p) (hit_in rules r p t d))
    (in_cases q r rules c)

pub of_hit : (rules : List FileRule) (h : FileRule × Pattern) → Contains (hits_of rules) h → Contains rules h.0 × Contains h.0.patterns h.1
of_hit [] h c = absurd (not_in h c)
of_hit (q ∷ rules) h c =
    ⊎_elim
    (λ (d : Contains (map (pair q) q.patterns) h). let t = from_pairs q h q.patterns d in
    (subst (λ (x : FileRule). Contains (q ∷ rules) x) t.0 (in_head q rules), subst (λ (x : FileRule). Contains x.patterns h.1) t.0 t.1))
    (λ (d : Contains (hits_of rules) h). let t = of_hit rules h d in (in_tail q h.0 rules t.0, t.1))
    (Contains-append_cases (map (pair q) q.patterns) (hits_of rules) h c)

pub got_in : {X : Type 0} (xs : List X) (n : ℕ) (x : X) → slice_get xs n ≡ Some x → Contains xs x
got_in xs n x e = (n, slice_get_within xs n x e, get_or_from_slice_get xs n x x e)

pub get_in : {X : Type 0} (xs : List X) (x : X) → Contains xs x → (n : ℕ) × (slice_get xs n ≡ Some x)
get_in xs x c = (c.0, slice_get-get_or xs c.0 x c.1 ∙ ap Some c.2)

-- a mark of a sort that says how
way_parts : (literal m deny : Bool) (w : Option Way) (v : Way) → cond ((cond literal m (not m)) && not deny) w None ≡ Some v → (m ≡ literal) × (deny ≡ false) × (w ≡ Some v)
way_parts true true false w v e = (refl, refl, e)
way_parts true true true w v e = absurd (let f = e in cc)
way_parts true false deny w v e = absurd (let f = e in cc)
way_parts false false false w v e = (refl, refl, e)
way_parts false false true w v e = absurd (let f = e in cc)
way_parts false true deny w v e = absurd (let f = e in cc)

way_made : (literal m deny : Bool) (w : Option Way) → m ≡ literal → deny ≡ false → cond ((cond literal m (not m)) && not deny) w None ≡ w
way_made true true false w e f = refl
way_made true true true w e f = absurd (true≢false f)
way_made true false deny w e f = absurd (true≢false (sym e))
way_made false false false w e f = refl
way_made false false true w e f = absurd (true≢false f)
way_made false true deny w e f = absurd (true≢false e)

way_from : (number : Exec → Way) (o : Option Exec) (w : Way) → option_map number o ≡ Some w → (e : Exec) × (o ≡ Some e) × (number e ≡ w)
way_from number None w h = absurd (let f = h in cc)
way_from number (Some e) w h = (e, refl, same_Some (number e) w h)

hit_from : (number : Exec → Way) (o : Option (FileRule × Pattern)) (literal : Bool) (w : Way)
    → option_and_then (way_if literal) (option_map (mark_of number) o) ≡ Some w
    → (h : FileRule × Pattern) × (o ≡ Some h) × (way_if literal (mark_of number h) ≡ Some w)
hit_from number None literal w e = absurd (let f = e in cc)
hit_from number (Some h) literal w e = (h, refl, e)

module _ (number : Exec → Way) (rules : List FileRule) (patterns : List Pattern) (ways : List (Option Way)) (flat : patterns ≡ patterns_of rules) (are : ways ≡ numbered number rules) (t : Table) (auto : IsAutomaton patterns t) where
  abbrev hits : List (FileRule × Pattern)
  hits = hits_of rules

  marks : marks_by rules ways ≡ map (mark_of number) hits
  marks = ap (marks_by rules) are ∙ marks_are number rules

  pattern_at : (n : ℕ) → slice_get patterns n ≡ option_map (λ (h : FileRule × Pattern). h.1) (slice_get hits n)
  pattern_at n = ap (λ ps. slice_get ps n) (flat ∙ patterns_are rules) ∙ slice_get-map (λ (h : FileRule × Pattern). h.1) hits n

  mark_at : (literal : Bool) (n : ℕ) → way_at (marks_by rules ways) literal n ≡ option_and_then (way_if literal) (option_map (mark_of number) (slice_get hits n))
  mark_at literal n = ap (option_and_then (way_if literal)) (ap (λ ms. slice_get ms n) marks ∙ slice_get-map (mark_of number) hits n)

  -- what a number in a row's list with a way stands for
  record Named (literal : Bool) (w : Way) (text : List ℕ) : Type 0 where
    rule : FileRule
    pattern : Pattern
    in_rules : Contains rules rule
    in_patterns : Contains rule.patterns pattern
    match : IsTrue (is_match pattern.items.items text)
    sort : is_literal pattern ≡ literal
    allow : rule.deny ≡ false
    exec : Exec
    says : rule.exec ≡ Some exec
    is : number exec ≡ w

  named : (literal : Bool) (w : Way) (text : List ℕ) (list : List ℕ) (i : ℕ) → ListsMatching patterns text list → i < length list → way_at (marks_by rules ways) literal (get_or list i 0) ≡ Some w → Named literal w text
  named literal w text list i lists lt e =
      let n : ℕ = get_or list i 0 in
      let q = (lists.exact n).0 (i, lt, get_or_default list i n 0 lt) in
      let f = hit_from number (slice_get hits n) literal w (sym (mark_at literal n) ∙ e) in
      let h = f.0 in
      let same : h.1 ≡ q.0 = same_Some h.1 q.0 (sym (ap (option_map (λ (h : FileRule × Pattern). h.1)) f.1) ∙ sym (pattern_at n) ∙ q.1) in
      let parts = way_parts literal (is_literal h.1) h.0.deny (option_map number h.0.exec) w f.2 in
      let x = way_from number h.0.exec w parts.2 in
      let place = of_hit rules h (got_in hits n h f.1) in
      record {
        rule = h.0;
        pattern = h.1;
        in_rules = place.0;
        in_patterns = place.1;
        match = (decided h.1.items.items text).1 (subst (λ (p : Pattern). Matches p.items.items text) (sym same) q.2);
        sort = parts.0;
        allow = parts.1;
        exec = x.0;
        says = x.1;
        is = x.2;
      }

  -- a conflict of marks in a list is one of rules
  pub rules_conflict : HasConflict (marks_by rules ways) t.lists → Conflicts rules
  rules_conflict d =
      let reached = auto.used d.0 d.2 in
      let list = get_or t.lists d.0 [] in
      let lists : ListsMatching patterns reached.0 list = subst (λ number. ListsMatching patterns reached.0 (get_or t.lists number [])) reached.2 (auto.matching reached.0 reached.1) in
      let a = named d.1 d.3.one reached.0 list d.3.i lists d.3.within.0 d.3.first in
      let b = named d.1 d.3.other reached.0 list d.3.j lists d.3.within.1 d.3.second in (
        record { rule = a.rule; pattern = a.pattern },
        record { rule = b.rule; pattern = b.pattern },
        reached.0,
        record {
          rules_are = (a.in_rules, b.in_rules);
          patterns_are = (a.in_patterns, b.in_patterns);
          match = (a.match, b.match);
          sort = a.sort ∙ sym b.sort;
          say = record {
            allow = (a.allow, b.allow);
            one = a.exec;
            other = b.exec;
            say = (a.says, b.says);
            differ = λ same. d.3.differ (sym a.is ∙ ap number same ∙ b.is);
          };
        },
      )

  -- where a hit stands in the list of its text
  record Listed (literal : Bool) (w : Way) (list : List ℕ) : Type 0 where
    i : ℕ
    within : i < length list
    way : way_at (marks_by rules ways) literal (get_or list i 0) ≡ Some w

  listed : (literal : Bool) (text list : List ℕ) (r : FileRule) (p : Pattern) (e : Exec) → ListsMatching patterns text list → Contains rules r
      → Contains r.patterns p → IsTrue (is_match p.items.items text) → is_literal p ≡ literal → r.deny ≡ false → r.exec ≡ Some e
      → Listed literal (number e) list
  listed literal text list r p e lists c d match sort allow says =
      let h = get_in hits (pair r p) (hit_in rules r p c d) in
      let at = (lists.exact h.0).1 (p, pattern_at h.0 ∙ ap (option_map (λ (h : FileRule × Pattern). h.1)) h.1, (decided p.items.items text).0 match) in
      let here : get_or list at.0 0 ≡ h.0 = get_or_default list at.0 0 h.0 at.1 ∙ at.2 in
      record {
        i = at.0;
        within = at.1;
        way = ap (way_at (marks_by rules ways) literal) here ∙ mark_at literal h.0 ∙ ap (λ o. option_and_then (way_if literal) (option_map (mark_of number) o)) h.1
            ∙ way_made literal (is_literal p) r.deny (option_map number r.exec) sort allow ∙ ap (option_map number) says;
      }

  pub marks_conflict : TellsApart number rules → Conflicts rules → HasConflict (marks_by rules ways) t.lists
  marks_conflict apart x =
      let a = x.0 in
      let b = x.1 in
      let text = x.2 in
      let c = x.3 in
      let d = c.say in
      let bytes = matched_text a.pattern.items.items text ((decided a.pattern.items.items text).0 c.match.0) in
      let row = place_of t text in
      let list = list_at t row in
      let lists = auto.matching text bytes in
      let p = listed (is_literal b.pattern) text list a.rule a.pattern d.one lists c.rules_are.0 c.patterns_are.0 c.match.0 c.sort d.allow.0 d.say.0 in
      let q = listed (is_literal b.pattern) text list b.rule b.pattern d.other lists c.rules_are.1 c.patterns_are.1 c.match.1 refl d.allow.1 d.say.1 in (
        list_number t row,
        is_literal b.pattern,
        auto.numbered text bytes,
        record {
          i = p.i;
          j = q.i;
          one = number d.one;
          other = number d.other;
          within = (p.within, q.within);
          first = p.way;
          second = q.way;
          differ = λ same. d.differ (apart a.rule b.rule d.one d.other c.rules_are.0 c.rules_are.1 d.say.0 d.say.1 same);
        },
      )
