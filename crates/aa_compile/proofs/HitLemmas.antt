-- Patterns by their numbers, each with its rule.
use Rattle.std.proofs.Common.{◌≡◌, ℕ, List, [], ◌∷◌, ◌++◌, map, Bool, true, false, Option, Some, refl, sym, ap, ◌∙◌, subst}
use Rattle.std.specs.List.{filter, flat_map, slice_get}
use Rattle.std.specs.Option.{option_map, option_map_or}
use Rattle.std.proofs.lemmas.List.{map-append}
use Rattle.std.proofs.lemmas.Option.{slice_get-map, slice_get-get_or}
use Rattle.aa_pattern.specs.declared.pattern.Pattern.{Pattern}
use Rattle.aa_model.specs.declared.rule.Exec.{Exec}
use Rattle.aa_model.specs.declared.rule.FileRule.{FileRule}
use Rattle.aa_pattern.specs.Matching.{is_match}
use Rattle.aa_auto.specs.Tables.{IsAutomaton, ListsMatching, list_at, list_number, place_of}
use Rattle.aa_compile.specs.declared.mark.Way.{Way}
use Rattle.aa_compile.specs.declared.mark.Mark.{Mark}
use Rattle.aa_compile.specs.Gathered.{gather, picked}
use Rattle.aa_compile.specs.Marks.{mark_by, marks_by}
use Rattle.aa_compile.specs.Sides.{none_said, joined, one, side_by}
use Rattle.aa_compile.specs.Ways.{numbered}
use Rattle.aa_compile.specs.Rows.{RowTable, row_by, rows_by, settled, verdict_of, verdict_at, patterns_of, IsVerdictOf, AreRowsOf}
use Rattle.aa_compile.proofs.Pickeds.{picked-map}
use Rattle.aa_compile.proofs.Hits.{map_map, hits_at}
use Rattle.aa_compile.proofs.Gathers.{gather-map}
use Rattle.aa_compile.proofs.SideLemmas.{side_is}

map_id : {X : Type 0} (xs : List X) → map (λ (x : X). x) xs ≡ xs
map_id [] = refl
map_id (x ∷ xs) = ap (λ l. x ∷ l) (map_id xs)

-- each pattern with its rule
abbrev pub hits_of : List FileRule → List (FileRule × Pattern)
hits_of rules = flat_map (λ r. map (λ p. (r, p)) r.patterns) rules

pub patterns_are : (rules : List FileRule) → patterns_of rules ≡ map (λ h. h.1) (hits_of rules)
patterns_are [] = refl
patterns_are (r ∷ rs) =
    ap (λ l. r.patterns ++ l) (patterns_are rs)
    ∙ ap (λ l. l ++ map (λ h. h.1) (hits_of rs)) (sym (map_map (λ (h : FileRule × Pattern). h.1) (λ p. (r, p)) r.patterns ∙ map_id r.patterns))
    ∙ sym (map-append (λ (h : FileRule × Pattern). h.1) (map (λ p. (r, p)) r.patterns) (hits_of rs))

module _ (number : Exec → Way) where
  abbrev pub mark_of : FileRule × Pattern → Mark
  mark_of h = mark_by h.0 (option_map number h.0.exec) h.1

  pub marks_are : (rules : List FileRule) → marks_by rules (numbered number rules) ≡ map mark_of (hits_of rules)
  marks_are [] = refl
  marks_are (r ∷ rs) =
      ap (λ l. map (mark_by r (option_map number r.exec)) r.patterns ++ l) (marks_are rs)
      ∙ ap (λ l. l ++ map mark_of (hits_of rs)) (sym (map_map mark_of (λ p. (r, p)) r.patterns))
      ∙ sym (map-append mark_of (map (λ p. (r, p)) r.patterns) (hits_of rs))

-- a row's sides are those of the rules
module _ (number : Exec → Way) (rules : List FileRule) (patterns : List Pattern) (ways : List (Option Way)) (flat : patterns ≡ patterns_of rules) (are : ways ≡ numbered number rules) where
  abbrev marks : List Mark
  marks = marks_by rules ways

  side_at_list : (path : List ℕ) (owned : Bool) (numbers : List ℕ) → ListsMatching patterns path numbers → IsVerdictOf number rules path owned (settled (side_by owned (picked marks numbers)))
  side_at_list path owned numbers lists =
      let hits = hits_of rules in
      let lists' : ListsMatching (map (λ h. h.1) hits) path numbers = subst (λ ps. ListsMatching ps path numbers) (flat ∙ patterns_are rules) lists in
      let marked : picked marks numbers ≡ map (mark_of number) (filter (λ h. is_match h.1.items.items path) hits) =
      ap (λ ms. picked ms numbers) (ap (marks_by rules) are ∙ marks_are number rules) ∙ picked-map (mark_of number) hits numbers ∙ ap (map (mark_of number)) (hits_at hits path numbers lists') in
      let sides : side_by owned (picked marks numbers) ≡ gather joined none_said (λ h. one owned (mark_of number h)) (filter (λ h. is_match h.1.items.items path) hits) =
      ap (side_by owned) marked ∙ gather-map joined none_said (one owned) (mark_of number) (filter (λ h. is_match h.1.items.items path) hits) in
      subst (λ side. IsVerdictOf number rules path owned (settled side)) (sym sides) (side_is number rules path owned)

  row_side : (owned : Bool) (ms : List Mark) → verdict_of owned (row_by ms) ≡ settled (side_by owned ms)
  row_side true ms = refl
  row_side false ms = refl

  pub rows_are : (r : RowTable) → IsAutomaton patterns r.table → r.rows ≡ rows_by marks r.table.lists → AreRowsOf number rules r
  rows_are r auto rows path owned text =
      let place = place_of r.table path in
      let found = list_number r.table place in
      let list = list_at r.table place in
      let stored : slice_get r.rows found ≡ Some (row_by (picked marks list)) =
      ap (λ l. slice_get l found) rows ∙ slice_get-map (λ (l : List ℕ). row_by (picked marks l)) r.table.lists found
      ∙ ap (option_map (λ (l : List ℕ). row_by (picked marks l))) (slice_get-get_or r.table.lists found [] (auto.numbered path text)) in
      let is : verdict_at r path owned ≡ settled (side_by owned (picked marks list)) = ap (λ o. option_map_or (verdict_of owned) o (settled none_said)) stored ∙ row_side owned (picked marks list) in
      subst (IsVerdictOf number rules path owned) (sym is) (side_at_list path owned list (auto.matching path text))
