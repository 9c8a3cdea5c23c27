-- What a row's side says is what the rules say.
use Rattle.std.proofs.Common.{◌≡◌, ℕ, List, [], ◌∷◌, map, Bool, true, false, not, cond, Option, Some, None, refl, ap, ◌∙◌}
use Rattle.std.specs.Prelude.{◌&&◌, ◌||◌, is_some}
use Rattle.std.specs.List.{filter, list_any, flat_map, All}
use Rattle.std.specs.Option.{option_map, option_or}
use Rattle.std.proofs.lemmas.List.Elements.{filter_passes, All-head}
use Rattle.aa_pattern.specs.declared.pattern.Pattern.{Pattern}
use Rattle.aa_model.specs.declared.rule.Exec.{Exec}
use Rattle.aa_model.specs.declared.rule.FileRule.{FileRule}
use Rattle.aa_pattern.specs.Matching.{is_match}
use Rattle.aa_compile.specs.declared.sets.RuleSets.{RuleSets}
use Rattle.aa_compile.specs.declared.mark.Way.{Way}
use Rattle.aa_compile.specs.declared.mark.Mark.{Mark}
use Rattle.aa_compile.specs.declared.side.Chosen.{Chosen}
use Rattle.aa_compile.specs.declared.side.Side.{Side}
use Rattle.aa_compile.specs.Gathered.{gather}
use Rattle.aa_compile.specs.Said.{said, both, nothing, verdict}
use Rattle.aa_compile.specs.Patterns.{is_literal}
use Rattle.aa_compile.specs.Marks.{mark_by}
use Rattle.aa_compile.specs.Sides.{no_choice, earlier, none_said, joined, one}
use Rattle.aa_compile.specs.FileRules.{some_match, any_sort, applies_by, saying, file_verdict, says_how, ways_by, is_nil, chosen, way_of}
use Rattle.aa_compile.specs.Rows.{choice_of, settled, IsVerdictOf}
use Rattle.aa_compile.proofs.Gathers.{gather_agree, gather_part, of_hits, gather_tested}
use Rattle.aa_compile.proofs.Joins.{both_joins, earlier_joins}

verdict_is : (rs : List FileRule) → gather both nothing (λ r. said (saying r)) rs ≡ verdict (map saying rs)
verdict_is [] = refl
verdict_is (r ∷ rs) = ap (both (said (saying r))) (verdict_is rs)

sets_cond : (b : Bool) (s t : Side) → (cond b s t).sets ≡ cond b s.sets t.sets
sets_cond true s t = refl
sets_cond false s t = refl

literal_cond : (b : Bool) (s t : Side) → (cond b s t).literal ≡ cond b s.literal t.literal
literal_cond true s t = refl
literal_cond false s t = refl

any_cond : (b : Bool) (s t : Side) → (cond b s t).any ≡ cond b s.any t.any
any_cond true s t = refl
any_cond false s t = refl

module _ (number : Exec → Way) where
  -- what a rule says of execution
  abbrev choice_by : FileRule → Chosen
  choice_by r = record { way = option_map number r.exec; audited = r.audit }

  abbrev to_mark : FileRule × Pattern → Mark
  to_mark h = mark_by h.0 (option_map number h.0.exec) h.1

  abbrev made : Option Exec → Bool → Chosen
  made e audit = record { way = option_map number e; audited = audit }

  literal_cases : (applies deny literal : Bool) (e : Option Exec) (audit : Bool)
      → cond applies (cond ((not deny && literal) && is_some (option_map number e)) (made e audit) no_choice) no_choice ≡ cond literal
      (cond applies (cond (not deny && is_some e) (made e audit) no_choice) no_choice) no_choice
  literal_cases true true true None audit = refl
  literal_cases true true true (Some x) audit = refl
  literal_cases true true false None audit = refl
  literal_cases true true false (Some x) audit = refl
  literal_cases true false true None audit = refl
  literal_cases true false true (Some x) audit = refl
  literal_cases true false false None audit = refl
  literal_cases true false false (Some x) audit = refl
  literal_cases false true true None audit = refl
  literal_cases false true true (Some x) audit = refl
  literal_cases false true false None audit = refl
  literal_cases false true false (Some x) audit = refl
  literal_cases false false true None audit = refl
  literal_cases false false true (Some x) audit = refl
  literal_cases false false false None audit = refl
  literal_cases false false false (Some x) audit = refl

  any_cases : (applies deny : Bool) (e : Option Exec) (audit : Bool)
      → cond applies (cond (not deny && is_some (option_map number e)) (made e audit) no_choice) no_choice ≡ cond applies
      (cond (not deny && is_some e) (made e audit) no_choice) no_choice
  any_cases true true None audit = refl
  any_cases true true (Some x) audit = refl
  any_cases true false None audit = refl
  any_cases true false (Some x) audit = refl
  any_cases false true None audit = refl
  any_cases false true (Some x) audit = refl
  any_cases false false None audit = refl
  any_cases false false (Some x) audit = refl

  module _ (rules : List FileRule) (path : List ℕ) (owned : Bool) where
    abbrev patterns : FileRule → List Pattern
    patterns r = r.patterns

    abbrev matches : Pattern → Bool
    matches p = is_match p.items.items path

    abbrev applies : FileRule → Bool
    applies r = owned || not r.owner

    abbrev hits : List (FileRule × Pattern)
    hits = flat_map (λ r. map (λ p. (r, p)) r.patterns) rules

    abbrev matching : List (FileRule × Pattern)
    matching = filter (λ h. matches h.1) hits

    abbrev side : Side
    side = gather joined none_said (λ h. one owned (to_mark h)) matching

    abbrev says : FileRule → RuleSets
    says r = cond (applies r) (said (saying r)) nothing

    sets_are : side.sets ≡ file_verdict rules path owned
    sets_are =
        gather_part joined none_said both nothing (λ s. s.sets) (λ a b. refl) refl (λ h. one owned (to_mark h)) matching
        ∙ gather_agree both nothing (λ h. (one owned (to_mark h)).sets) (λ h. cond (any_sort h.1) (says h.0) nothing) (λ h. sets_cond (applies h.0) _ _) matching
        ∙ of_hits both nothing both_joins patterns matches any_sort says rules
        ∙ gather_tested both nothing both_joins applies (λ r. some_match any_sort path r.patterns) (λ r. said (saying r)) rules
        ∙ verdict_is (filter (applies_by any_sort path owned) rules)

    -- the choice of the rules that apply by patterns of one sort
    abbrev choice_from : List FileRule → Chosen
    choice_from rs = gather earlier no_choice choice_by rs

    abbrev chooses : FileRule → Chosen
    chooses r = cond (applies r) (cond (says_how r) (choice_by r) no_choice) no_choice

    by_sort : (sort : Pattern → Bool) → gather earlier no_choice (λ h. cond (sort h.1) (chooses h.0) no_choice) matching ≡ choice_from (ways_by sort rules path owned)
    by_sort sort =
        of_hits earlier no_choice earlier_joins patterns matches sort chooses rules
        ∙ gather_tested earlier no_choice earlier_joins applies (λ r. some_match sort path r.patterns) (λ r. cond (says_how r) (choice_by r) no_choice) rules
        ∙ gather_tested earlier no_choice earlier_joins says_how (applies_by sort path owned) choice_by rules

    literal_is : side.literal ≡ choice_from (ways_by is_literal rules path owned)
    literal_is =
        gather_part joined none_said earlier no_choice (λ s. s.literal) (λ a b. refl) refl (λ h. one owned (to_mark h)) matching
        ∙ gather_agree earlier no_choice (λ h. (one owned (to_mark h)).literal) (λ h. cond (is_literal h.1) (chooses h.0) no_choice)
        (λ h. literal_cond (applies h.0) _ _ ∙ literal_cases (applies h.0) h.0.deny (is_literal h.1) h.0.exec h.0.audit) matching
        ∙ by_sort is_literal

    any_is : side.any ≡ choice_from (ways_by any_sort rules path owned)
    any_is =
        gather_part joined none_said earlier no_choice (λ s. s.any) (λ a b. refl) refl (λ h. one owned (to_mark h)) matching
        ∙ gather_agree earlier no_choice (λ h. (one owned (to_mark h)).any) (λ h. cond (any_sort h.1) (chooses h.0) no_choice)
        (λ h. any_cond (applies h.0) _ _ ∙ any_cases (applies h.0) h.0.deny h.0.exec h.0.audit) matching
        ∙ by_sort any_sort

    -- the first of them says how
    abbrev HeadSays : List FileRule → Type 0
    HeadSays [] = Unit {0}
    HeadSays (r ∷ rs) = is_some r.exec ≡ true

    head_says : (rs : List FileRule) (test : FileRule → Bool) → ((r : FileRule) → test r ≡ true → is_some r.exec ≡ true) → All (λ r. test r ≡ true) rs → HeadSays rs
    head_says [] test says all = tt
    head_says (r ∷ rs) test says all = says r (All-head (λ r. test r ≡ true) r rs all)

    says_exec : (sort : Pattern → Bool) (r : FileRule) → (says_how r && applies_by sort path owned r) ≡ true → is_some r.exec ≡ true
    says_exec sort r e = second (not r.deny) (is_some r.exec) (applies_by sort path owned r) e
      where
        second : (a b c : Bool) → ((a && b) && c) ≡ true → b ≡ true
        second true true c e = refl
        second true false c e = e
        second false true c e = refl
        second false false c e = e

    ways_say : (sort : Pattern → Bool) → HeadSays (ways_by sort rules path owned)
    ways_say sort = head_says (ways_by sort rules path owned) (λ r. says_how r && applies_by sort path owned r) (says_exec sort) (filter_passes (λ r. says_how r && applies_by sort path owned r) rules)

    first_way : (e : Option Exec) (w : Option Way) → is_some e ≡ true → option_or (option_map number e) w ≡ option_map number e
    first_way None w h = absurd (let f = h in cc)
    first_way (Some x) w h = refl

    way_first : (rs : List FileRule) → HeadSays rs → (choice_from rs).way ≡ option_map number (way_of rs)
    way_first [] h = refl
    way_first (r ∷ rs) h = first_way r.exec (choice_from rs).way h

    audited_any : (rs : List FileRule) → (choice_from rs).audited ≡ list_any (λ r. r.audit) rs
    audited_any [] = refl
    audited_any (r ∷ rs) = ap (λ b. r.audit || b) (audited_any rs)

    abbrev choose : Chosen → Chosen → Chosen
    choose l a = cond (is_some l.way) l a

    some_way : (e : Option Exec) → is_some (option_map number e) ≡ is_some e
    some_way None = refl
    some_way (Some x) = refl

    choose_is : (ls as' : List FileRule) → HeadSays ls → choose (choice_from ls) (choice_from as') ≡ choice_from (cond (is_nil ls) as' ls)
    choose_is [] as' h = refl
    choose_is (r ∷ rs) as' h = ap (λ b. cond b (choice_from (r ∷ rs)) (choice_from as')) (ap is_some (first_way r.exec (choice_from rs).way h) ∙ some_way r.exec ∙ h)

    chosen_says : (b : Bool) (ls as' : List FileRule) → HeadSays ls → HeadSays as' → HeadSays (cond b as' ls)
    chosen_says true ls as' h k = k
    chosen_says false ls as' h k = h

    choice_is : choice_of side ≡ choice_from (chosen rules path owned)
    choice_is =
        ap (λ l. choose l side.any) literal_is
        ∙ ap (choose (choice_from (ways_by is_literal rules path owned))) any_is
        ∙ choose_is (ways_by is_literal rules path owned) (ways_by any_sort rules path owned) (ways_say is_literal)

    chosen_head : HeadSays (chosen rules path owned)
    chosen_head = chosen_says (is_nil (ways_by is_literal rules path owned)) (ways_by is_literal rules path owned) (ways_by any_sort rules path owned) (ways_say is_literal) (ways_say any_sort)

    pub side_is : IsVerdictOf number rules path owned (settled side)
    side_is = record {
      sets = sets_are;
      way = ap (λ c. c.way) choice_is ∙ way_first (chosen rules path owned) chosen_head;
      audited = ap (λ c. c.audited) choice_is ∙ audited_any (chosen rules path owned);
    }
