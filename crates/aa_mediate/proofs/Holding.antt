-- Rules of which some hold, one after the other.
use Rattle.std.proofs.Common.{◌≡◌, ℕ, ◌+◌, ◌<◌, ◌≤◌, List, ◌∷◌, Bool, true, false, cond, length, drop, get_or, map, refl, sym, ap, subst, ◌∙◌}
use Rattle.std.specs.List.{filter}
use Rattle.std.proofs.lemmas.List.{at_drop_more, at_drop_all}
use Rattle.aa_compile.specs.declared.sets.RuleSets.{RuleSets}
use Rattle.aa_compile.specs.Said.{Saying, said, both, nothing, verdict}
use Rattle.aa_compile.proofs.Joins.{both_joins}

module _ {R : Type 0} (holds : R → Bool) (saying : R → Saying) where
  abbrev pub verdict_by : List R → RuleSets
  verdict_by rules = verdict (map saying (filter holds rules))

  step : (b : Bool) (r : R) (rules : List R) → verdict (map saying (cond b (r ∷ filter holds rules) (filter holds rules))) ≡ both (cond b (said (saying r)) nothing) (verdict_by rules)
  step true r rules = refl
  step false r rules = sym (both_joins.left (verdict_by rules))

  pub verdict_more : (rules : List R) (i : ℕ) (r : R) (acc next total : RuleSets) → i < length rules → r ≡ get_or rules i r
      → next ≡ both acc (cond (holds r) (said (saying r)) nothing) → both acc (verdict_by (drop i rules)) ≡ total
      → both next (verdict_by (drop (i + 1) rules)) ≡ total
  verdict_more rules i r acc next total lt is e so_far =
      let rest = verdict_by (drop (i + 1) rules) in
      let P : R → Type 0 = λ x. verdict_by (drop i rules) ≡ both (cond (holds x) (said (saying x)) nothing) rest in
      let here : P r = subst P (sym is) (at_drop_more verdict_by rules i r lt ∙ step (holds (get_or rules i r)) (get_or rules i r) (drop (i + 1) rules)) in
      ap (λ m. both m rest) e ∙ both_joins.assoc acc (cond (holds r) (said (saying r)) nothing) rest ∙ ap (both acc) (sym here) ∙ so_far

  pub verdict_all : (rules : List R) (i : ℕ) (acc total : RuleSets) → length rules ≤ i → both acc (verdict_by (drop i rules)) ≡ total → acc ≡ total
  verdict_all rules i acc total le so_far = sym (both_joins.right acc) ∙ sym (ap (both acc) (at_drop_all verdict_by rules i le)) ∙ so_far
