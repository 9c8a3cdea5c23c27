-- What the marks of a row say is what the rules that aren't gone and hold say.
use Rattle.std.proofs.Common.{◌≡◌, ℕ, suc, ◌+◌, List, [], ◌∷◌, map, Bool, true, false, not, cond, Option, Some, None, refl, sym, ap, ◌∙◌, arith}
use Rattle.std.specs.Prelude.{◌&&◌, ◌||◌}
use Rattle.std.specs.List.{filter, filter_map, slice_get, cons_option}
use Rattle.aa_model.specs.Lawful.{has_exec}
use Rattle.aa_compile.specs.declared.sets.RuleSets.{RuleSets}
use Rattle.aa_compile.specs.declared.side.Chosen.{Chosen}
use Rattle.aa_compile.specs.Gathered.{gather, picked}
use Rattle.aa_compile.specs.Said.{Saying as Says, said, both, nothing, verdict}
use Rattle.aa_compile.specs.Sides.{no_choice, earlier}
use Rattle.aa_compile.proofs.Gathers.{gather-map, gather_agree, gather_tested}
use Rattle.aa_compile.proofs.Joins.{both_joins}
use Rattle.aa_mediate.specs.Held.{saying}
use Rattle.aa_redundancy.specs.declared.marks.RuleMark.{RuleMark}
use Rattle.aa_redundancy.specs.declared.saying.Saying.{Saying}
use Rattle.aa_redundancy.specs.Without.{without}
use Rattle.aa_redundancy.specs.Rights.{rights}
use Rattle.aa_redundancy.specs.Marks.{plain_mark, sets_of, choice_of, sets_by, choice_by, choose, chosen_by, led, said_by}
use Rattle.aa_redundancy.specs.Plain.{each_from, positions_from}
use Rattle.aa_redundancy.proofs.Numbered.{numbered_from, element, stays, left_passing}

-- the elements at the numbers of those that pass
module _ {X Y : Type 0} (f : ℕ → X → Y) (test : X → Bool) (get : ℕ → Option Y) where
  abbrev made : ℕ × X → Y
  made h = f h.0 h.1

  abbrev passes : ℕ × X → Bool
  passes h = test h.1

  cases : (b : Bool) (k : ℕ) (x : X) (ns : List ℕ) (hs : List (ℕ × X)) → get k ≡ Some (f k x) → filter_map get ns ≡ map made hs
      → filter_map get (cond b (k ∷ ns) ns) ≡ map made (cond b ((k, x) ∷ hs) hs)
  cases true k x ns hs e so = ap (λ (o : Option Y). cons_option o (filter_map get ns)) e ∙ ap (λ (l : List Y). f k x ∷ l) so
  cases false k x ns hs e so = so

  pub at_positions : (k : ℕ) (xs : List X) → ((i n : ℕ) → n ≡ k + i → get n ≡ slice_get (each_from f k xs) i)
      → filter_map get (positions_from test k xs) ≡ map made (filter passes (numbered_from k xs))
  at_positions k [] gets = refl
  at_positions k (x ∷ xs) gets =
      cases (test x) k x (positions_from test (suc k) xs) (filter passes (numbered_from (suc k) xs)) (gets 0 k (omega arith))
      (at_positions (suc k) xs (λ i n e. gets (suc i) n (omega (arith, e))))

module _ {X : Type 0} (audit deny test : X → Bool) (rules : List X) (gone : ℕ → Bool) (owned : Bool) where
  abbrev mark : ℕ → X → RuleMark
  mark n r = plain_mark n (audit r) (deny r)

  abbrev say : X → Says
  say r = saying (audit r) (deny r)

  abbrev marks : List RuleMark
  marks = each_from mark 0 rules

  abbrev row : List ℕ
  row = positions_from test 0 rules

  abbrev numbered : List (ℕ × X)
  numbered = numbered_from 0 rules

  abbrev marked_of : ℕ × X → RuleMark
  marked_of h = mark h.0 h.1

  abbrev holding : List (ℕ × X)
  holding = filter (λ (h : ℕ × X). test h.1) numbered

  row_is : picked marks row ≡ map marked_of holding
  row_is = at_positions mark test (slice_get marks) 0 rules (λ i n e. let f : n ≡ i = omega (arith, e) in ap (slice_get marks) f)

  or_yes : (b : Bool) (x y : RuleSets) → cond (b || true) x y ≡ x
  or_yes true x y = refl
  or_yes false x y = refl

  pub verdict_is : (rs : List X) → gather both nothing (λ r. said (say r)) rs ≡ verdict (map say rs)
  verdict_is [] = refl
  verdict_is (r ∷ rs) = ap (both (said (say r))) (verdict_is rs)

  abbrev there : ℕ × X → Bool
  there h = not (gone h.0)

  abbrev pub left_verdict : RuleSets
  left_verdict = verdict (map say (filter test (without gone rules)))

  sets_are : sets_by gone owned (picked marks row) ≡ left_verdict
  sets_are =
      ap (sets_by gone owned) row_is
      ∙ gather-map both nothing (sets_of gone owned) marked_of holding
      ∙ gather_agree both nothing (λ h. sets_of gone owned (marked_of h)) (λ h. cond (there h) (said (say h.1)) nothing)
      (λ h. or_yes owned (cond (there h) (said (say h.1)) nothing) nothing) holding
      ∙ gather_tested both nothing both_joins there (λ (h : ℕ × X). test h.1) (λ (h : ℕ × X). said (say h.1)) numbered
      ∙ sym (gather-map both nothing (λ (r : X). said (say r)) element (filter (stays gone test) numbered))
      ∙ ap (gather both nothing (λ (r : X). said (say r))) (sym (left_passing gone test 0 rules))
      ∙ verdict_is (filter test (without gone rules))

  -- such marks say nothing of executions
  no_ways : (sort owns denies there' : Bool) (c : Chosen) → cond sort (cond owns (cond (denies && false) (cond there' c no_choice) no_choice) no_choice) no_choice ≡ no_choice
  no_ways true true true there' c = refl
  no_ways true true false there' c = refl
  no_ways true false denies there' c = refl
  no_ways false owns denies there' c = refl

  all_none : (hs : List (ℕ × X)) → gather earlier no_choice (λ (h : ℕ × X). no_choice) hs ≡ no_choice
  all_none [] = refl
  all_none (h ∷ hs) = ap (earlier no_choice) (all_none hs)

  choice_none : (literal : Bool) → choice_by gone literal owned (picked marks row) ≡ no_choice
  choice_none literal =
      ap (choice_by gone literal owned) row_is
      ∙ gather-map earlier no_choice (choice_of gone literal owned) marked_of holding
      ∙ gather_agree earlier no_choice (λ h. choice_of gone literal owned (marked_of h)) (λ h. no_choice)
      (λ h. no_ways (cond literal false true) (owned || true) (not (deny h.1)) (there h) (record { way = None; audited = audit h.1 })) holding
      ∙ all_none holding

  chosen_none : chosen_by gone owned (picked marks row) ≡ no_choice
  chosen_none = ap (λ (c : Chosen). choose c (choice_by gone false owned (picked marks row))) (choice_none true) ∙ choice_none false

  led_none : (denied : Bool) (c : Chosen) → c ≡ no_choice → led denied c ≡ no_choice
  led_none true c e = refl
  led_none false c e = e

  pub said_is : said_by gone owned (picked marks row) ≡ (let s : Saying = record { rights = rights left_verdict; chosen = no_choice } in s)
  said_is =
      ap (λ (c : Chosen). let s : Saying = record { rights = rights (sets_by gone owned (picked marks row)); chosen = c } in s)
      (led_none (has_exec (sets_by gone owned (picked marks row)).deny) (chosen_by gone owned (picked marks row)) chosen_none)
      ∙ ap (λ (v : RuleSets). let s : Saying = record { rights = rights v; chosen = no_choice } in s) sets_are
