-- What rules and attachments say of paths that the same patterns match.
use Rattle.std.proofs.Common.{◌≡◌, ℕ, zero, suc, List, [], ◌∷◌, map, Bool, true, cond, Option, Some, None, Contains, refl, ap, ◌∙◌, arith}
use Rattle.std.specs.Prelude.{◌||◌, ◌&&◌, not}
use Rattle.std.specs.List.{filter, list_any}
use Rattle.std.specs.Option.{option_map_or}
use Rattle.std.proofs.lemmas.List.Elements.{Contains-append_left, Contains-append_right}
use Rattle.aa_pattern.specs.declared.pattern.Pattern.{Pattern}
use Rattle.aa_pattern.specs.Matching.{is_match}
use Rattle.aa_model.specs.declared.rule.FileRule.{FileRule}
use Rattle.aa_model.specs.declared.policy.Profile.{Profile}
use Rattle.aa_compile.specs.Said.{verdict}
use Rattle.aa_compile.specs.Patterns.{is_literal}
use Rattle.aa_compile.specs.FileRules.{some_match, any_sort, applies_by, saying, file_verdict, says_how, ways_by, is_nil, chosen}
use Rattle.aa_compile.specs.Rows.{patterns_of}
use Rattle.aa_compile.specs.Attached.{attached, attached_by, attachments_by, attachment_of, pattern_of}
use Rattle.aa_compile.specs.Checks.{attached_patterns}
use Rattle.aa_model.specs.declared.rule.ChangeRule.{ChangeRule}
use Rattle.aa_compile.specs.Holding.{change_holds}
use Rattle.aa_mediate.specs.Held.{saying as change_saying, change_verdict}
use Rattle.aa_representatives.specs.Alike.{MatchAlike, patterns_in, change_patterns}

-- tests that agree at each element of a list
module _ {X : Type 0} (f g : X → Bool) where
  abbrev pub AgreeIn : List X → Type 0
  AgreeIn xs = (x : X) → Contains xs x → f x ≡ g x

  here : (x : X) (xs : List X) → Contains (x ∷ xs) x
  here x xs = Contains-append_left (x ∷ []) xs x (0, omega arith, refl)

  agree_head : (x : X) (xs : List X) → AgreeIn (x ∷ xs) → f x ≡ g x
  agree_head x xs agree = agree x (here x xs)

  agree_tail : (x : X) (xs : List X) → AgreeIn (x ∷ xs) → AgreeIn xs
  agree_tail x xs agree y c = agree y (Contains-append_right (x ∷ []) xs y c)

  pub any_in : (xs : List X) → AgreeIn xs → list_any f xs ≡ list_any g xs
  any_in [] agree = refl
  any_in (x ∷ xs) agree = ap (λ (b : Bool). b || list_any f xs) (agree_head x xs agree) ∙ ap (λ (b : Bool). g x || b) (any_in xs (agree_tail x xs agree))

  pub filter_in : (xs : List X) → AgreeIn xs → filter f xs ≡ filter g xs
  filter_in [] agree = refl
  filter_in (x ∷ xs) agree =
      ap (λ (b : Bool). cond b (x ∷ filter f xs) (filter f xs)) (agree_head x xs agree)
      ∙ ap (λ (ys : List X). cond (g x) (x ∷ ys) ys) (filter_in xs (agree_tail x xs agree))

-- the patterns of a rule are among those of all
pub of_rule : (rules : List FileRule) (r : FileRule) (p : Pattern) → Contains rules r → Contains r.patterns p → Contains (patterns_of rules) p
of_rule [] r p c d = absurd (omega (arith, c.1))
of_rule (q ∷ rules) r p (zero, lt, e) d = Contains-append_left q.patterns (patterns_of rules) p (ap_in q r p e d)
  where
    ap_in : (q r : FileRule) (p : Pattern) → q ≡ r → Contains r.patterns p → Contains q.patterns p
    ap_in q r p e d = rw e d
of_rule (q ∷ rules) r p (suc k, lt, e) d = Contains-append_right q.patterns (patterns_of rules) p (of_rule rules r p (k, omega arith, e) d)

module _ (s u : List ℕ) where
  pub some_match_alike : (sort : Pattern → Bool) (ps : List Pattern) → MatchAlike ps s u → some_match sort s ps ≡ some_match sort u ps
  some_match_alike sort ps alike =
      any_in (λ p. sort p && is_match p.items.items s) (λ p. sort p && is_match p.items.items u) ps (λ p c. ap (λ (b : Bool). sort p && b) (alike p c))

  module _ (owned : Bool) (rules : List FileRule) (alike : MatchAlike (patterns_of rules) s u) where
    applies_alike : (sort : Pattern → Bool) (r : FileRule) → Contains rules r → applies_by sort s owned r ≡ applies_by sort u owned r
    applies_alike sort r c = ap (λ (b : Bool). (owned || not r.owner) && b) (some_match_alike sort r.patterns (λ p d. alike p (of_rule rules r p c d)))

    pub verdict_alike : file_verdict rules s owned ≡ file_verdict rules u owned
    verdict_alike = ap (λ (rs : List FileRule). verdict (map saying rs)) (filter_in (applies_by any_sort s owned) (applies_by any_sort u owned) rules (applies_alike any_sort))

    ways_alike : (sort : Pattern → Bool) → ways_by sort rules s owned ≡ ways_by sort rules u owned
    ways_alike sort =
        filter_in (λ r. says_how r && applies_by sort s owned r) (λ r. says_how r && applies_by sort u owned r) rules (λ r c. ap (λ (b : Bool). says_how r && b) (applies_alike sort r c))

    pub chosen_alike : chosen rules s owned ≡ chosen rules u owned
    chosen_alike =
        ap (λ (ls : List FileRule). cond (is_nil ls) (ways_by any_sort rules s owned) ls) (ways_alike is_literal)
        ∙ ap (λ (rs : List FileRule). cond (is_nil (ways_by is_literal rules u owned)) rs (ways_by is_literal rules u owned)) (ways_alike any_sort)

  of_hit : (hits : List (ℕ × Pattern)) (h : ℕ × Pattern) → Contains hits h → Contains (map pattern_of hits) h.1
  of_hit [] h c = absurd (omega (arith, c.1))
  of_hit (q ∷ hits) h (zero, lt, e) = (0, omega arith, ap (λ (x : ℕ × Pattern). x.1) e)
  of_hit (q ∷ hits) h (suc k, lt, e) = let f = of_hit hits h (k, omega arith, e) in Contains-append_right (q.1 ∷ []) (map pattern_of hits) h.1 f

  pub attached_alike : (profiles : List Profile) (numbers : List ℕ) → MatchAlike (attached_patterns profiles numbers) s u → attached profiles numbers s ≡ attached profiles numbers u
  attached_alike profiles numbers alike =
      ap (λ (hs : List (ℕ × Pattern)). attached_by (map attachment_of hs))
      (filter_in (λ h. is_match h.1.items.items s) (λ h. is_match h.1.items.items u) (attachments_by profiles numbers) (λ h c. alike h.1 (of_hit (attachments_by profiles numbers) h c)))

-- the pattern of a rule on changes is among those of all
pub of_change : (rules : List ChangeRule) (r : ChangeRule) (p : Pattern) → Contains rules r → Contains (patterns_in r.pattern) p → Contains (change_patterns rules) p
of_change [] r p c d = absurd (omega (arith, c.1))
of_change (q ∷ rules) r p (zero, lt, e) d = Contains-append_left (patterns_in q.pattern) (change_patterns rules) p (of_same q r p e d)
  where
    of_same : (q r : ChangeRule) (p : Pattern) → q ≡ r → Contains (patterns_in r.pattern) p → Contains (patterns_in q.pattern) p
    of_same q r p e d = rw e d
of_change (q ∷ rules) r p (suc k, lt, e) d = Contains-append_right (patterns_in q.pattern) (change_patterns rules) p (of_change rules r p (k, omega arith, e) d)

module _ (s u : List ℕ) where
  named_alike : (o : Option Pattern) → MatchAlike (patterns_in o) s u → option_map_or (λ (p : Pattern). is_match p.items.items s) o true ≡ option_map_or (λ (p : Pattern). is_match p.items.items u) o true
  named_alike None alike = refl
  named_alike (Some p) alike = alike p (0, omega arith, refl)

  pub change_alike : (rules : List ChangeRule) → MatchAlike (change_patterns rules) s u → change_verdict rules s ≡ change_verdict rules u
  change_alike rules alike =
      ap (λ (rs : List ChangeRule). verdict (map (λ (r : ChangeRule). change_saying r.audit r.deny) rs))
      (filter_in (change_holds s) (change_holds u) rules (λ r c. named_alike r.pattern (λ p d. alike p (of_change rules r p c d))))
