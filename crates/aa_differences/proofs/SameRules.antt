-- Rules that are the same apply alike, and say the same.
use Rattle.std.proofs.Common.{◌≡◌, ℕ, List, [], ◌∷◌, Bool, true, false, cond, Option, Some, None, refl, ap, ◌∙◌}
use Rattle.std.specs.Prelude.{◌&&◌, ◌||◌, not, is_some}
use Rattle.std.specs.List.{AllZip, filter, list_any}
use Rattle.std.specs.Option.{option_map_or}
use Rattle.aa_pattern.specs.declared.pattern.Pattern.{Pattern}
use Rattle.aa_pattern.specs.Matching.{is_match}
use Rattle.aa_model.specs.declared.rule.Exec.{Exec}
use Rattle.aa_model.specs.declared.rule.FileRule.{FileRule}
use Rattle.aa_model.specs.declared.rule.ChangeRule.{ChangeRule}
use Rattle.aa_base.specs.declared.perms.Perms.{Perms}
use Rattle.aa_compile.specs.Patterns.{is_literal}
use Rattle.aa_compile.specs.Said.{verdict}
use Rattle.aa_compile.specs.FileRules.{some_match, any_sort, applies_by, saying, file_verdict, says_how, ways_by, is_nil, chosen, way_of}
use Rattle.aa_compile.specs.Holding.{change_holds}
use Rattle.aa_mediate.specs.Held.{saying as said_by, change_verdict}
use Rattle.aa_differences.specs.Sameness.{SamePattern, SameRule, SameChange, IsAlike}
use Rattle.aa_differences.proofs.Rows.{any_alike, filter_alike, map_alike}
use Rattle.aa_differences.proofs.SamePatterns.{IsSort, any_is_sort, literal_alike, match_alike, some_match_alike}

module _ (sort : Pattern → Bool) (is : IsSort sort) (path : List ℕ) (owned : Bool) where
  pub applies_alike : (r s : FileRule) → SameRule r s → applies_by sort path owned r ≡ applies_by sort path owned s
  applies_alike r s h =
      ap (λ (o : Bool). (owned || not o) && some_match sort path r.patterns) h.owner
      ∙ ap (λ (m : Bool). (owned || not s.owner) && m) (some_match_alike sort is path r.patterns s.patterns h.patterns)

  pub ways_alike : (rs ss : List FileRule) → AllZip SameRule rs ss → AllZip SameRule (ways_by sort rs path owned) (ways_by sort ss path owned)
  ways_alike rs ss h =
      filter_alike SameRule (λ r. says_how r && applies_by sort path owned r) (λ r. says_how r && applies_by sort path owned r)
      (λ r s e.
      ap (λ (d : Bool). (not d && is_some r.exec) && applies_by sort path owned r) e.deny
      ∙ ap (λ (x : Option Exec). (not s.deny && is_some x) && applies_by sort path owned r) e.exec
      ∙ ap (λ (a : Bool). says_how s && a) (applies_alike r s e))
      rs ss h

saying_alike : (r s : FileRule) → SameRule r s → saying r ≡ saying s
saying_alike r s h =
    ap (λ (a : Bool). record { audit = a; deny = r.deny; bits = r.perms.0 }) h.audit
    ∙ ap (λ (d : Bool). record { audit = s.audit; deny = d; bits = r.perms.0 }) h.deny
    ∙ ap (λ (p : Perms). record { audit = s.audit; deny = s.deny; bits = p.0 }) h.perms

nil_alike : (rs ss : List FileRule) → AllZip SameRule rs ss → is_nil rs ≡ is_nil ss
nil_alike [] [] h = refl
nil_alike (r ∷ rs) (s ∷ ss) h = refl
nil_alike [] (s ∷ ss) h = absurd h
nil_alike (r ∷ rs) [] h = absurd h

pub way_alike : (rs ss : List FileRule) → AllZip SameRule rs ss → way_of rs ≡ way_of ss
way_alike [] [] h = refl
way_alike (r ∷ rs) (s ∷ ss) h = h.0.exec
way_alike [] (s ∷ ss) h = absurd h
way_alike (r ∷ rs) [] h = absurd h

module _ (path : List ℕ) (owned : Bool) (rs ss : List FileRule) (h : AllZip SameRule rs ss) where
  pub file_verdict_alike : file_verdict rs path owned ≡ file_verdict ss path owned
  file_verdict_alike =
      ap verdict (map_alike SameRule saying saying_alike (filter (applies_by any_sort path owned) rs) (filter (applies_by any_sort path owned) ss)
      (filter_alike SameRule (applies_by any_sort path owned) (applies_by any_sort path owned) (applies_alike any_sort any_is_sort path owned) rs ss h))

  chosen_by : (b c : Bool) → b ≡ c →
      AllZip SameRule (cond b (ways_by any_sort rs path owned) (ways_by is_literal rs path owned)) (cond c (ways_by any_sort ss path owned) (ways_by is_literal ss path owned))
  chosen_by true true e = ways_alike any_sort any_is_sort path owned rs ss h
  chosen_by false false e = ways_alike is_literal literal_alike path owned rs ss h
  chosen_by true false e = absurd cc
  chosen_by false true e = absurd cc

  pub chosen_alike : AllZip SameRule (chosen rs path owned) (chosen ss path owned)
  chosen_alike =
      chosen_by (is_nil (ways_by is_literal rs path owned)) (is_nil (ways_by is_literal ss path owned))
      (nil_alike (ways_by is_literal rs path owned) (ways_by is_literal ss path owned) (ways_alike is_literal literal_alike path owned rs ss h))

  pub chosen_way_alike : way_of (chosen rs path owned) ≡ way_of (chosen ss path owned)
  chosen_way_alike = way_alike (chosen rs path owned) (chosen ss path owned) chosen_alike

  pub audited_alike : list_any (λ r. r.audit) (chosen rs path owned) ≡ list_any (λ r. r.audit) (chosen ss path owned)
  audited_alike = any_alike SameRule (λ r. r.audit) (λ r. r.audit) (λ r s e. e.audit) (chosen rs path owned) (chosen ss path owned) chosen_alike

if_any_alike : (name : List ℕ) (o p : Option Pattern) → IsAlike SamePattern o p → option_map_or (λ (x : Pattern). is_match x.items.items name) o true ≡ option_map_or (λ (x : Pattern). is_match x.items.items name) p true
if_any_alike name None None h = refl
if_any_alike name (Some p) (Some q) h = match_alike p.items.items q.items.items h name
if_any_alike name None (Some q) h = absurd h
if_any_alike name (Some p) None h = absurd h

change_saying_alike : (r s : ChangeRule) → SameChange r s → said_by r.audit r.deny ≡ said_by s.audit s.deny
change_saying_alike r s h = ap (λ (a : Bool). said_by a r.deny) h.audit ∙ ap (λ (d : Bool). said_by s.audit d) h.deny

pub change_verdict_alike : (name : List ℕ) (rs ss : List ChangeRule) → AllZip SameChange rs ss → change_verdict rs name ≡ change_verdict ss name
change_verdict_alike name rs ss h =
    ap verdict (map_alike SameChange (λ r. said_by r.audit r.deny) change_saying_alike (filter (change_holds name) rs) (filter (change_holds name) ss)
    (filter_alike SameChange (change_holds name) (change_holds name) (λ r s e. if_any_alike name r.pattern s.pattern e.pattern) rs ss h))
