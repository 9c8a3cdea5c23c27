-- The rules of patterns.
use Rattle.std.proofs.Common.{◌≡◌, ◌≤◌, ◌<◌, ◌+◌, ℕ, suc, zero, List, [], ◌∷◌, ◌++◌, map, filter, length, Bool, true, false}
use Rattle.std.proofs.Common.{true≢false, cond, Some, Contains, refl, sym, ap, ◌∙◌, subst, arith, take, get_or, ⊎_elim, length-append}
use Rattle.std.proofs.Common.{get_or-append-add, append-nil}
use Rattle.std.specs.List.{slice_get, sum_by}
use Rattle.std.specs.Option.{option_map}
use Rattle.std.proofs.lemmas.Bool.{cases_lt}
use Rattle.std.proofs.lemmas.List.{length-map}
use Rattle.std.proofs.lemmas.List.Concat.{flat_map-append, length-flat_map}
use Rattle.std.proofs.lemmas.List.Elements.{filter_more, Contains-append_left, Contains-append_right, Contains-append_cases}
use Rattle.std.proofs.lemmas.Option.{none-some, same_Some, slice_get-map, slice_get-get_or, slice_get_within, get_or_from_slice_get}
use Rattle.aa_pattern.specs.declared.pattern.Pattern.{Pattern}
use Rattle.aa_pattern.specs.Places.{Position, IsPlace, IsHead}
use Rattle.aa_model.specs.declared.rule.FileRule.{FileRule}
use Rattle.aa_auto.specs.Tables.{HasPlaces}
use Rattle.aa_compile.specs.FileRules.{says_how}
use Rattle.aa_compile.specs.Rows.{patterns_of}
use Rattle.aa_explain.specs.Clashes.{executing, AreOwners}
use Rattle.aa_compile.proofs.ConflictLemmas.{get_in}

-- behind a list
got_left : {X : Type 0} (xs ys : List X) (n : ℕ) (x : X) → slice_get xs n ≡ Some x → slice_get (xs ++ ys) n ≡ Some x
got_left [] ys n x e = absurd (none-some x e)
got_left (y ∷ xs) ys zero x e = e
got_left (y ∷ xs) ys (suc n) x e = got_left xs ys n x e

got_right : {X : Type 0} (xs ys : List X) (n : ℕ) (x : X) → slice_get ys n ≡ Some x → slice_get (xs ++ ys) (length xs + n) ≡ Some x
got_right xs ys n x e =
    slice_get-get_or (xs ++ ys) (length xs + n) x (omega (arith, length-append xs ys, slice_get_within ys n x e))
    ∙ ap Some (get_or-append-add xs ys n x ∙ get_or_from_slice_get ys n x x e)

-- the patterns of one rule more
abbrev pub theirs : {X : Type 0} → FileRule → List X → List X
theirs r xs = cond (says_how r) xs []

module _ (rules : List FileRule) (k : ℕ) (r : FileRule) (at : slice_get rules k ≡ Some r) (patterns : List Pattern) (owners : List ℕ) (are : AreOwners rules k patterns owners) where
  owner_before : (more : List Pattern) (others : List ℕ) (i : ℕ) (q : FileRule) (p : Pattern) → i < k → slice_get rules i ≡ Some q → says_how q ≡ true → Contains q.patterns p
      → (n : ℕ) × (slice_get (patterns ++ more) n ≡ Some p) × (slice_get (owners ++ others) n ≡ Some i)
  owner_before more others i q p lt got says c =
      let f = are.each i q p lt got says c in
      (f.0, got_left patterns more f.0 p f.1, got_left owners others f.0 i f.2)

  owner_here : (p : Pattern) → Contains r.patterns p → (n : ℕ) × (slice_get (patterns ++ r.patterns) n ≡ Some p) × (slice_get (owners ++ map (λ (x : Pattern). k) r.patterns) n ≡ Some k)
  owner_here p c =
      let m = get_in r.patterns p c in (
        length owners + m.0,
        subst (λ n. slice_get (patterns ++ r.patterns) (n + m.0) ≡ Some p) (sym are.many) (got_right patterns r.patterns m.0 p m.1),
        got_right owners (map (λ (x : Pattern). k) r.patterns) m.0 k (slice_get-map (λ (x : Pattern). k) r.patterns m.0 ∙ ap (option_map (λ (x : Pattern). k)) m.1),
      )

  more : (b : Bool) → says_how r ≡ b → AreOwners rules (k + 1) (patterns ++ cond b r.patterns []) (owners ++ cond b (map (λ (x : Pattern). k) r.patterns) [])
  more true says = record {
    many = omega (arith, are.many, length-append owners (map (λ (x : Pattern). k) r.patterns), length-append patterns r.patterns, length-map r.patterns (λ (x : Pattern). k));
    each = λ i q p lt got how c.
        ⊎_elim
        (λ (l : i < k). owner_before r.patterns (map (λ (x : Pattern). k) r.patterns) i q p l got how c)
        (λ (g : k ≤ i).
        let e : i ≡ k = omega arith in
        let same : q ≡ r = same_Some q r (sym got ∙ ap (slice_get rules) e ∙ at) in
        let f = owner_here p (subst (λ (x : FileRule). Contains x.patterns p) same c) in
        (f.0, f.1, f.2 ∙ ap Some (sym e)))
        (cases_lt i k);
  }
  more false says = record {
    many = omega (arith, are.many, length-append owners [], length-append patterns []);
    each = λ i q p lt got how c.
        ⊎_elim
        (λ (l : i < k). owner_before [] [] i q p l got how c)
        (λ (g : k ≤ i).
        let e : i ≡ k = omega arith in
        let same : q ≡ r = same_Some q r (sym got ∙ ap (slice_get rules) e ∙ at) in
        absurd (true≢false (sym how ∙ ap says_how same ∙ says)))
        (cases_lt i k);
  }

  pub owners_more : AreOwners rules (k + 1) (patterns ++ theirs r r.patterns) (owners ++ theirs r (map (λ (x : Pattern). k) r.patterns))
  owners_more = more (says_how r) refl

pub no_owners : (rules : List FileRule) → AreOwners rules 0 [] []
no_owners rules = record { many = refl; each = λ i q p lt got how c. absurd (omega (arith, lt)) }

at_rule : (b : Bool) (r : FileRule) → patterns_of (cond b (r ∷ []) []) ≡ cond b r.patterns []
at_rule true r = append-nil r.patterns
at_rule false r = refl

pub executing_more : (rules : List FileRule) (k : ℕ) (r : FileRule) → slice_get rules k ≡ Some r → executing (take (k + 1) rules) ≡ executing (take k rules) ++ theirs r r.patterns
executing_more rules k r at =
    ap patterns_of (filter_more says_how rules k r (slice_get_within rules k r at))
    ∙ flat_map-append (λ (q : FileRule). q.patterns) (filter says_how (take k rules)) (cond (says_how (get_or rules k r)) (get_or rules k r ∷ []) [])
    ∙ ap (λ (q : FileRule). executing (take k rules) ++ patterns_of (cond (says_how q) (q ∷ []) [])) (get_or_from_slice_get rules k r r at)
    ∙ ap (λ ps. executing (take k rules) ++ ps) (at_rule (says_how r) r)

-- they are patterns of the rules, and no more than those
rule_in : (b : Bool) (r : FileRule) (rules : List FileRule) (p : Pattern) → (Contains (executing rules) p → Contains (patterns_of rules) p) → Contains (patterns_of (cond b (r ∷ filter says_how rules) (filter says_how rules))) p
    → Contains (r.patterns ++ patterns_of rules) p
rule_in true r rules p rest c =
    ⊎_elim
    (λ (d : Contains r.patterns p). Contains-append_left r.patterns (patterns_of rules) p d)
    (λ (d : Contains (executing rules) p). Contains-append_right r.patterns (patterns_of rules) p (rest d))
    (Contains-append_cases r.patterns (executing rules) p c)
rule_in false r rules p rest c = Contains-append_right r.patterns (patterns_of rules) p (rest c)

pub in_rules : (rules : List FileRule) (p : Pattern) → Contains (executing rules) p → Contains (patterns_of rules) p
in_rules [] p c = c
in_rules (r ∷ rules) p c = rule_in (says_how r) r rules p (in_rules rules p) c

rule_few : (b : Bool) (r : FileRule) (rules : List FileRule) → length (executing rules) ≤ length (patterns_of rules)
    → length (patterns_of (cond b (r ∷ filter says_how rules) (filter says_how rules))) ≤ length (r.patterns ++ patterns_of rules)
rule_few true r rules few = omega (arith, few, length-append r.patterns (executing rules), length-append r.patterns (patterns_of rules))
rule_few false r rules few = omega (arith, few, length-append r.patterns (patterns_of rules))

fewer : (rules : List FileRule) → length (executing rules) ≤ length (patterns_of rules)
fewer [] = omega arith
fewer (r ∷ rules) = rule_few (says_how r) r rules (fewer rules)

pub executing_few : (rules : List FileRule) → sum_by (λ (r : FileRule). length r.patterns) rules ≤ 65535 → length (executing rules) ≤ 65535
executing_few rules few = omega (arith, fewer rules, length-flat_map (λ (r : FileRule). r.patterns) rules, few)

-- texts that may stand at the same places of patterns may do so of some of them
some_places : (some all : List Pattern) → ((p : Pattern) → Contains some p → Contains all p) → (s u : List ℕ) → ((n : ℕ) (q : Position) → IsPlace all s n q → IsPlace all u n q)
    → (n : ℕ) (q : Position) → IsPlace some s n q → IsPlace some u n q
some_places some all within s u same n q x =
    let p = x.0 in
    let k = get_in all p (within p (n, slice_get_within some n p x.2, get_or_from_slice_get some n p p x.2)) in
    let y = same k.0 q (p, x.1, k.1, x.3, x.4) in
    let e : y.0 ≡ p = same_Some y.0 p (sym y.2 ∙ k.1) in
    (p, y.1, x.2, subst (λ (z : Pattern). IsHead z.items.items q y.1) e y.3, y.4)

pub places_of_some : (some all : List Pattern) (n : ℕ) → ((p : Pattern) → Contains some p → Contains all p) → HasPlaces some n → HasPlaces all n
places_of_some some all n within h = record {
  texts = h.texts;
  many = h.many;
  bytes = h.bytes;
  apart = λ i j li lj same.
      h.apart i j li lj (λ m q. (
        some_places some all within _ _ (λ k x. (same k x).0) m q,
        some_places some all within _ _ (λ k x. (same k x).1) m q,
      ));
}
