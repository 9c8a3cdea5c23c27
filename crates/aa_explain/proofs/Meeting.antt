-- The rules that speak of a path are among those of which a pattern matches it.
use Rattle.std.proofs.Common.{◌≡◌, ℕ, suc, ◌+◌, List, [], ◌∷◌, map, Bool, true, false, true≢false, cond, not, Option, Some, None, refl, ap, sym, ◌∙◌, add-one, arith}
use Rattle.std.specs.Prelude.{◌&&◌, ◌||◌}
use Rattle.std.specs.Option.{option_and_then, option_map_or}
use Rattle.std.specs.List.{slice_get, filter_map, cons_option, list_any}
use Rattle.aa_pattern.specs.declared.pattern.Pattern.{Pattern}
use Rattle.aa_pattern.specs.Matching.{is_match}
use Rattle.aa_model.specs.declared.rule.FileRule.{FileRule}
use Rattle.aa_compile.specs.Patterns.{is_literal}
use Rattle.aa_compile.specs.FileRules.{any_sort, some_match, says_how}
use Rattle.aa_compile.specs.Matched.{matching_from}
use Rattle.aa_explain.specs.declared.told.Saying.{Saying}
use Rattle.aa_explain.specs.declared.told.Told.{Told}
use Rattle.aa_explain.specs.Sayings.{file_saying, says_how_literally, exec_saying, exec_sayings}
use Rattle.aa_explain.specs.Told.{told_if, told_at, speaking_from}

-- a rule of which no pattern matches has no literal one that does
two : (l m a b : Bool) → (a ≡ false → b ≡ false) → (m || a) ≡ false → ((l && m) || b) ≡ false
two l true a b rest e = absurd (true≢false e)
two true false a b rest e = rest e
two false false a b rest e = rest e

unliteral : (path : List ℕ) (ps : List Pattern) → some_match any_sort path ps ≡ false → some_match is_literal path ps ≡ false
unliteral path [] e = refl
unliteral path (p ∷ ps) e = two (is_literal p) (is_match p.items.items path) (some_match any_sort path ps) (some_match is_literal path ps) (unliteral path ps) e

and_false : (a b : Bool) → b ≡ false → (a && b) ≡ false
and_false true b e = e
and_false false b e = refl

chosen_false : (l h d a b : Bool) → a ≡ false → b ≡ false → ((cond l (h && a) (h && b)) || (d && b)) ≡ false
chosen_false true h d a b x y = ap (λ k. k || (d && b)) (and_false h a x) ∙ and_false d b y
chosen_false false h d a b x y = ap (λ k. k || (d && b)) (and_false h b y) ∙ and_false d b y

module _ (path : List ℕ) (owned : Bool) where
  abbrev meets : FileRule → Bool
  meets r = some_match any_sort path r.patterns

  pub file_silent : (r : FileRule) → meets r ≡ false → (file_saying path owned r).holds ≡ false
  file_silent r e = and_false (owned || not r.owner) (meets r) e

  pub literally_silent : (r : FileRule) → meets r ≡ false → says_how_literally path owned r ≡ false
  literally_silent r e = and_false (says_how r) _ (and_false (owned || not r.owner) _ (unliteral path r.patterns e))

  pub exec_silent : (literally : Bool) (r : FileRule) → meets r ≡ false → (exec_saying literally path owned r).holds ≡ false
  exec_silent literally r e =
      chosen_false literally (says_how r) r.deny _ _ (and_false (owned || not r.owner) _ (unliteral path r.patterns e)) (and_false (owned || not r.owner) _ e)

module _ (path : List ℕ) (rules : List FileRule) where
  abbrev meets_rule : FileRule → Bool
  meets_rule r = some_match any_sort path r.patterns

  -- the rules from n on are these
  abbrev Behind : ℕ → List FileRule → Type 0
  Behind n rest = (i : ℕ) → slice_get rules (n + i) ≡ slice_get rest i

  first_of : (n : ℕ) (r : FileRule) (rest : List FileRule) → Behind n (r ∷ rest) → slice_get rules n ≡ Some r
  first_of n r rest at = let e : n ≡ n + 0 = omega arith in ap (slice_get rules) e ∙ at 0

  behind_first : (n : ℕ) (r : FileRule) (rest : List FileRule) → Behind n (r ∷ rest) → Behind (suc n) rest
  behind_first n r rest at i = let e : suc n + i ≡ n + suc i = omega arith in ap (slice_get rules) e ∙ at (suc i)

  module _ (says : FileRule → Saying) (silent : (r : FileRule) → meets_rule r ≡ false → (says r).holds ≡ false) where
    told_from : (n : ℕ) (rest : List FileRule) → Behind n rest → filter_map (told_at says rules) (matching_from path n rest) ≡ speaking_from n (map says rest)
    told_from n [] at = refl
    told_from n (r ∷ rest) at =
        here (meets_rule r) refl
        ∙ ap (cons_option (told_if n (says r))) (told_from (suc n) rest (behind_first n r rest at) ∙ ap (λ k. speaking_from k (map says rest)) (sym (add-one n)))
      where
        here : (b : Bool) → meets_rule r ≡ b → filter_map (told_at says rules) (cond b (n ∷ matching_from path (suc n) rest) (matching_from path (suc n) rest)) ≡ cons_option (told_if n (says r))
            (filter_map (told_at says rules) (matching_from path (suc n) rest))
        here true e = ap (λ (o : Option FileRule). cons_option (option_and_then (λ (q : FileRule). told_if n (says q)) o) (filter_map (told_at says rules) (matching_from path (suc n) rest))) (first_of n r rest at)
        here false e = let quiet : told_if n (says r) ≡ None = ap (λ (b : Bool). cond b (Some (record { rule = n; saying = says r })) None) (silent r e) in
            ap (λ (o : Option Told). cons_option o (filter_map (told_at says rules) (matching_from path (suc n) rest))) (sym quiet)

    pub told_all : filter_map (told_at says rules) (matching_from path 0 rules) ≡ speaking_from 0 (map says rules)
    told_all = told_from 0 rules (λ i. let e : 0 + i ≡ i = omega arith in ap (slice_get rules) e)

  module _ (test : FileRule → Bool) (silent : (r : FileRule) → meets_rule r ≡ false → test r ≡ false) where
    abbrev test_at : ℕ → Bool
    test_at n = option_map_or test (slice_get rules n) false

    any_from : (n : ℕ) (rest : List FileRule) → Behind n rest → list_any test_at (matching_from path n rest) ≡ list_any test rest
    any_from n [] at = refl
    any_from n (r ∷ rest) at = here (meets_rule r) refl ∙ ap (λ b. test r || b) (any_from (suc n) rest (behind_first n r rest at))
      where
        here : (b : Bool) → meets_rule r ≡ b → list_any test_at (cond b (n ∷ matching_from path (suc n) rest) (matching_from path (suc n) rest)) ≡ (test r || list_any test_at (matching_from path (suc n) rest))
        here true e = ap (λ (o : Option FileRule). option_map_or test o false || list_any test_at (matching_from path (suc n) rest)) (first_of n r rest at)
        here false e = ap (λ b. b || list_any test_at (matching_from path (suc n) rest)) (sym (silent r e))

    pub any_all : list_any test_at (matching_from path 0 rules) ≡ list_any test rules
    any_all = any_from 0 rules (λ i. let e : 0 + i ≡ i = omega arith in ap (slice_get rules) e)

module _ (path : List ℕ) (owned : Bool) (rules files : List FileRule) (numbers : List ℕ) (same : rules ≡ files) (are : numbers ≡ matching_from path 0 files) where
  told_by : (says : FileRule → Saying) → ((r : FileRule) → meets path owned r ≡ false → (says r).holds ≡ false) → filter_map (told_at says rules) numbers ≡ speaking_from 0 (map says files)
  told_by says silent =
      ap (λ fs. filter_map (told_at says fs) numbers) same
      ∙ ap (filter_map (told_at says files)) are
      ∙ told_all path files says silent

  pub files_told : filter_map (told_at (file_saying path owned) rules) numbers ≡ speaking_from 0 (map (file_saying path owned) files)
  files_told = told_by (file_saying path owned) (file_silent path owned)

  abbrev literally_in : List FileRule → List ℕ → Bool
  literally_in fs ns = list_any (λ n. option_map_or (says_how_literally path owned) (slice_get fs n) false) ns

  pub executions_told : (literally : Bool) → literally ≡ literally_in rules numbers → filter_map (told_at (exec_saying literally path owned) rules) numbers ≡ speaking_from 0 (exec_sayings path owned files)
  executions_told literally is =
      let chosen : literally ≡ list_any (says_how_literally path owned) files =
      is ∙ ap (λ fs. literally_in fs numbers) same ∙ ap (literally_in files) are ∙ any_all path files (says_how_literally path owned) (literally_silent path owned) in
      told_by (exec_saying literally path owned) (exec_silent path owned literally)
      ∙ ap (λ b. speaking_from 0 (map (exec_saying b path owned) files)) chosen
