-- What the marks of a row say is what the rules that aren't gone say.
use Rattle.std.proofs.Common.{◌≡◌, ℕ, suc, List, [], ◌∷◌, ◌++◌, map, Bool, true, false, not, cond, Option, Some, None, refl, sym, ap, ◌∙◌, subst}
use Rattle.std.specs.Prelude.{◌&&◌, ◌||◌, is_some}
use Rattle.std.specs.List.{filter, list_any, flat_map, All}
use Rattle.std.specs.Option.{option_map, option_or}
use Rattle.std.proofs.lemmas.List.{map-append}
use Rattle.std.proofs.lemmas.List.Elements.{filter_passes, All-head}
use Rattle.aa_pattern.specs.declared.pattern.Pattern.{Pattern}
use Rattle.aa_pattern.specs.Matching.{is_match}
use Rattle.aa_model.specs.declared.rule.Exec.{Exec}
use Rattle.aa_model.specs.declared.rule.FileRule.{FileRule}
use Rattle.aa_model.specs.Lawful.{has_exec}
use Rattle.aa_auto.specs.Tables.{ListsMatching}
use Rattle.aa_compile.specs.declared.sets.RuleSets.{RuleSets}
use Rattle.aa_compile.specs.declared.mark.Way.{Way}
use Rattle.aa_compile.specs.declared.side.Chosen.{Chosen}
use Rattle.aa_compile.specs.Gathered.{gather, picked}
use Rattle.aa_compile.specs.Patterns.{is_literal}
use Rattle.aa_compile.specs.Said.{said, both, nothing, verdict}
use Rattle.aa_compile.specs.Sides.{no_choice, earlier}
use Rattle.aa_compile.specs.FileRules.{some_match, any_sort, applies_by, saying, file_verdict, says_how, ways_by, is_nil, chosen, way_of}
use Rattle.aa_compile.specs.Rows.{patterns_of}
use Rattle.aa_compile.proofs.Pickeds.{picked-map}
use Rattle.aa_compile.proofs.Hits.{map_map, hits_at}
use Rattle.aa_compile.proofs.Gathers.{gather-map, gather_agree, of_hits, gather_tested}
use Rattle.aa_compile.proofs.Joins.{both_joins, earlier_joins}
use Rattle.aa_redundancy.specs.declared.marks.RuleMark.{RuleMark}
use Rattle.aa_redundancy.specs.declared.saying.Saying.{Saying}
use Rattle.aa_redundancy.specs.Without.{without}
use Rattle.aa_redundancy.specs.Rights.{Lead, rights, lead_by, lead}
use Rattle.aa_redundancy.specs.Marks.{rule_mark, marks_from, sets_of, choice_of, is_sort, sets_by, choice_by, choose, chosen_by, led, said_by}
use Rattle.aa_redundancy.proofs.Numbered.{numbered_from, element, stays, left_passing}

map_id : {X : Type 0} (xs : List X) → map (λ (x : X). x) xs ≡ xs
map_id [] = refl
map_id (x ∷ xs) = ap (λ l. x ∷ l) (map_id xs)

abbrev pub RuleHit : Type 0
RuleHit = (ℕ × FileRule) × Pattern

abbrev patterns : ℕ × FileRule → List Pattern
patterns h = h.1.patterns

-- each pattern beside its rule and the rule's number, from k on
abbrev pub hits_from : ℕ → List FileRule → List RuleHit
hits_from k rules = flat_map (λ h. map (λ p. (h, p)) (patterns h)) (numbered_from k rules)

pub patterns_are : (k : ℕ) (rules : List FileRule) → patterns_of rules ≡ map (λ h. h.1) (hits_from k rules)
patterns_are k [] = refl
patterns_are k (r ∷ rs) =
    ap (λ l. r.patterns ++ l) (patterns_are (suc k) rs)
    ∙ ap (λ l. l ++ map (λ h. h.1) (hits_from (suc k) rs)) (sym (map_map (λ (h : RuleHit). h.1) (λ p. ((k, r), p)) r.patterns ∙ map_id r.patterns))
    ∙ sym (map-append (λ (h : RuleHit). h.1) (map (λ p. ((k, r), p)) r.patterns) (hits_from (suc k) rs))

pub verdict_is : (rs : List FileRule) → gather both nothing (λ r. said (saying r)) rs ≡ verdict (map saying rs)
verdict_is [] = refl
verdict_is (r ∷ rs) = ap (both (said (saying r))) (verdict_is rs)

module _ (number : Exec → Way) where
  abbrev pub mark_of : RuleHit → RuleMark
  mark_of h = rule_mark number h.0.0 h.0.1 h.1

  pub marks_are : (k : ℕ) (rules : List FileRule) → marks_from number k rules ≡ map mark_of (hits_from k rules)
  marks_are k [] = refl
  marks_are k (r ∷ rs) =
      ap (λ l. map (rule_mark number k r) r.patterns ++ l) (marks_are (suc k) rs)
      ∙ ap (λ l. l ++ map mark_of (hits_from (suc k) rs)) (sym (map_map mark_of (λ p. ((k, r), p)) r.patterns))
      ∙ sym (map-append mark_of (map (λ p. ((k, r), p)) r.patterns) (hits_from (suc k) rs))

  module _ (rules : List FileRule) (path : List ℕ) (gone : ℕ → Bool) (owned : Bool) where
    abbrev matches : Pattern → Bool
    matches p = is_match p.items.items path

    abbrev numbered : List (ℕ × FileRule)
    numbered = numbered_from 0 rules

    abbrev matching : List RuleHit
    matching = filter (λ h. matches h.1) (hits_from 0 rules)

    abbrev left : List FileRule
    left = without gone rules

    abbrev there : ℕ × FileRule → Bool
    there h = not (gone h.0)

    abbrev owns : ℕ × FileRule → Bool
    owns h = owned || not h.1.owner

    abbrev says_sets : ℕ × FileRule → RuleSets
    says_sets h = said (saying h.1)

    abbrev if_there : ℕ × FileRule → RuleSets
    if_there h = cond (there h) (says_sets h) nothing

    abbrev if_owned : ℕ × FileRule → RuleSets
    if_owned h = cond (owns h) (if_there h) nothing

    sets_are : gather both nothing (λ h. sets_of gone owned (mark_of h)) matching ≡ file_verdict left path owned
    sets_are =
        gather_agree both nothing (λ h. sets_of gone owned (mark_of h)) (λ h. cond (any_sort h.1) (if_owned h.0) nothing) (λ h. refl) matching
        ∙ of_hits both nothing both_joins patterns matches any_sort if_owned numbered
        ∙ gather_tested both nothing both_joins owns (λ h. some_match any_sort path h.1.patterns) if_there numbered
        ∙ gather_tested both nothing both_joins there (λ h. applies_by any_sort path owned h.1) says_sets numbered
        ∙ sym (gather-map both nothing (λ (r : FileRule). said (saying r)) element (filter (stays gone (applies_by any_sort path owned)) numbered))
        ∙ ap (gather both nothing (λ (r : FileRule). said (saying r))) (sym (left_passing gone (applies_by any_sort path owned) 0 rules))
        ∙ verdict_is (filter (applies_by any_sort path owned) left)

    abbrev choice_at : FileRule → Chosen
    choice_at r = record { way = option_map number r.exec; audited = r.audit }

    -- the choice of the rules that apply by patterns of one sort
    abbrev choice_from : List FileRule → Chosen
    choice_from rs = gather earlier no_choice choice_at rs

    abbrev says_way : ℕ × FileRule → Chosen
    says_way h = choice_at h.1

    abbrev way_there : ℕ × FileRule → Chosen
    way_there h = cond (there h) (says_way h) no_choice

    abbrev way_said : ℕ × FileRule → Chosen
    way_said h = cond (says_how h.1) (way_there h) no_choice

    abbrev way_owned : ℕ × FileRule → Chosen
    way_owned h = cond (owns h) (way_said h) no_choice

    some_way : (e : Option Exec) → is_some (option_map number e) ≡ is_some e
    some_way None = refl
    some_way (Some x) = refl

    by_sort : (literal : Bool) (sort : Pattern → Bool) → ((h : RuleHit) → is_sort literal (mark_of h) ≡ sort h.1)
        → gather earlier no_choice (λ h. choice_of gone literal owned (mark_of h)) matching ≡ choice_from (ways_by sort left path owned)
    by_sort literal sort sorts =
        gather_agree earlier no_choice (λ h. choice_of gone literal owned (mark_of h)) (λ h. cond (sort h.1) (way_owned h.0) no_choice)
        (λ h.
        ap (λ (b : Bool). cond b (cond (owns h.0) (cond (not h.0.1.deny && is_some (option_map number h.0.1.exec)) (way_there h.0) no_choice) no_choice) no_choice) (sorts h)
        ∙ ap (λ (b : Bool). cond (sort h.1) (cond (owns h.0) (cond (not h.0.1.deny && b) (way_there h.0) no_choice) no_choice) no_choice) (some_way h.0.1.exec)) matching
        ∙ of_hits earlier no_choice earlier_joins patterns matches sort way_owned numbered
        ∙ gather_tested earlier no_choice earlier_joins owns (λ h. some_match sort path h.1.patterns) way_said numbered
        ∙ gather_tested earlier no_choice earlier_joins (λ h. says_how h.1) (λ h. applies_by sort path owned h.1) way_there numbered
        ∙ gather_tested earlier no_choice earlier_joins there (λ h. says_how h.1 && applies_by sort path owned h.1) says_way numbered
        ∙ sym (gather-map earlier no_choice choice_at element (filter (stays gone (λ r. says_how r && applies_by sort path owned r)) numbered))
        ∙ ap choice_from (sym (left_passing gone (λ r. says_how r && applies_by sort path owned r) 0 rules))

    -- the first of them says how
    abbrev HeadSays : List FileRule → Type 0
    HeadSays [] = Unit {0}
    HeadSays (r ∷ rs) = is_some r.exec ≡ true

    head_says : (rs : List FileRule) (test : FileRule → Bool) → ((r : FileRule) → test r ≡ true → is_some r.exec ≡ true) → All (λ r. test r ≡ true) rs → HeadSays rs
    head_says [] test says all = tt
    head_says (r ∷ rs) test says all = says r (All-head (λ r. test r ≡ true) r rs all)

    says_exec : (sort : Pattern → Bool) (r : FileRule) → (says_how r && applies_by sort path owned r) ≡ true → is_some r.exec ≡ true
    says_exec sort r e = second (not r.deny) (is_some r.exec) (applies_by sort path owned r) e
      where
        second : (a b c : Bool) → ((a && b) && c) ≡ true → b ≡ true
        second true true c e = refl
        second true false c e = e
        second false true c e = refl
        second false false c e = e

    ways_say : (sort : Pattern → Bool) → HeadSays (ways_by sort left path owned)
    ways_say sort = head_says (ways_by sort left path owned) (λ r. says_how r && applies_by sort path owned r) (says_exec sort) (filter_passes (λ r. says_how r && applies_by sort path owned r) left)

    first_way : (e : Option Exec) (w : Option Way) → is_some e ≡ true → option_or (option_map number e) w ≡ option_map number e
    first_way None w h = absurd (let f = h in cc)
    first_way (Some x) w h = refl

    way_first : (rs : List FileRule) → HeadSays rs → (choice_from rs).way ≡ option_map number (way_of rs)
    way_first [] h = refl
    way_first (r ∷ rs) h = first_way r.exec (choice_from rs).way h

    audited_any : (rs : List FileRule) → (choice_from rs).audited ≡ list_any (λ r. r.audit) rs
    audited_any [] = refl
    audited_any (r ∷ rs) = ap (λ b. r.audit || b) (audited_any rs)

    choose_is : (ls as' : List FileRule) → HeadSays ls → choose (choice_from ls) (choice_from as') ≡ choice_from (cond (is_nil ls) as' ls)
    choose_is [] as' h = refl
    choose_is (r ∷ rs) as' h = ap (λ b. cond b (choice_from (r ∷ rs)) (choice_from as')) (ap is_some (first_way r.exec (choice_from rs).way h) ∙ some_way r.exec ∙ h)

    chosen_says : (b : Bool) (ls as' : List FileRule) → HeadSays ls → HeadSays as' → HeadSays (cond b as' ls)
    chosen_says true ls as' h k = k
    chosen_says false ls as' h k = h

    chosen_head : HeadSays (chosen left path owned)
    chosen_head = chosen_says (is_nil (ways_by is_literal left path owned)) (ways_by is_literal left path owned) (ways_by any_sort left path owned) (ways_say is_literal) (ways_say any_sort)

    -- the way by its number
    abbrev pub chosen_of : Lead → Chosen
    chosen_of l = record { way = option_map number l.way; audited = l.audited }

    same_choice : (w v : Option Way) (a b : Bool) → w ≡ v → a ≡ b → (let x : Chosen = record { way = w; audited = a } in x) ≡ (let y : Chosen = record { way = v; audited = b } in y)
    same_choice w v a b p q = ap (λ (x : Option Way). let y : Chosen = record { way = x; audited = a } in y) p ∙ ap (λ (x : Bool). let y : Chosen = record { way = v; audited = x } in y) q

    led_is : (denied : Bool) (rs : List FileRule) → HeadSays rs → led denied (choice_from rs) ≡ chosen_of (lead_by denied rs)
    led_is true rs h = refl
    led_is false rs h = same_choice (choice_from rs).way (option_map number (way_of rs)) (choice_from rs).audited (list_any (λ r. r.audit) rs) (way_first rs h) (audited_any rs)

    -- what is said by the rules that are left
    abbrev pub saying_left : Saying
    saying_left = record { rights = rights (file_verdict left path owned); chosen = chosen_of (lead left path owned) }

    module _ (row : List ℕ) (lists : ListsMatching (patterns_of rules) path row) where
      abbrev marks : List RuleMark
      marks = marks_from number 0 rules

      picked_are : picked marks row ≡ map mark_of matching
      picked_are =
          ap (λ ms. picked ms row) (marks_are 0 rules)
          ∙ picked-map mark_of (hits_from 0 rules) row
          ∙ ap (map mark_of) (hits_at (hits_from 0 rules) path row (subst (λ ps. ListsMatching ps path row) (patterns_are 0 rules) lists))

      sets_at : sets_by gone owned (picked marks row) ≡ file_verdict left path owned
      sets_at = ap (sets_by gone owned) picked_are ∙ gather-map both nothing (sets_of gone owned) mark_of matching ∙ sets_are

      choice_sorted : (literal : Bool) (sort : Pattern → Bool) → ((h : RuleHit) → is_sort literal (mark_of h) ≡ sort h.1)
          → choice_by gone literal owned (picked marks row) ≡ choice_from (ways_by sort left path owned)
      choice_sorted literal sort sorts =
          ap (choice_by gone literal owned) picked_are ∙ gather-map earlier no_choice (choice_of gone literal owned) mark_of matching ∙ by_sort literal sort sorts

      chosen_at : chosen_by gone owned (picked marks row) ≡ choice_from (chosen left path owned)
      chosen_at =
          ap (λ l. choose l (choice_by gone false owned (picked marks row))) (choice_sorted true is_literal (λ h. refl))
          ∙ ap (choose (choice_from (ways_by is_literal left path owned))) (choice_sorted false any_sort (λ h. refl))
          ∙ choose_is (ways_by is_literal left path owned) (ways_by any_sort left path owned) (ways_say is_literal)

      pub said_is : said_by gone owned (picked marks row) ≡ saying_left
      said_is =
          ap (λ (v : RuleSets). let s : Saying = record { rights = rights v; chosen = led (has_exec v.deny) (chosen_by gone owned (picked marks row)) } in s) sets_at
          ∙ ap (λ (c : Chosen). let s : Saying = record { rights = rights (file_verdict left path owned); chosen = led (has_exec (file_verdict left path owned).deny) c } in s) chosen_at
          ∙ ap (λ (c : Chosen). let s : Saying = record { rights = rights (file_verdict left path owned); chosen = c } in s)
          (led_is (has_exec (file_verdict left path owned).deny) (chosen left path owned) chosen_head)
