-- The rules that apply to a row, and the rows at which a rule applies.
use Rattle.std.proofs.Common.{◌≡◌, ℕ, suc, ◌<◌, List, [], ◌∷◌, length, map, Bool, true, false, cond, Option, Some, refl, sym, ap, ◌∙◌, arith}
use Rattle.std.specs.Prelude.{◌||◌, ◌&&◌, not, filter}
use Rattle.std.specs.List.{slice_get}
use Rattle.std.specs.Option.{option_map_or}
use Rattle.std.proofs.lemmas.Option.{slice_get_within}
use Rattle.aa_model.specs.declared.policy.Profile.{Profile}
use Rattle.aa_model.specs.declared.rule.FileRule.{FileRule}
use Rattle.aa_compile.specs.FileRules.{any_sort, some_match}
use Rattle.aa_compile.specs.Matched.{matching_from, rules_matching}
use Rattle.aa_findings.specs.declared.rows.Row.{Row}
use Rattle.aa_findings.specs.declared.finding.Kind.{Kind}
use Rattle.aa_findings.specs.declared.finding.Kind.TheVariants.{UnconfinedExec, WrittenExec, AllFiles, AnyProfile, Duplicate, IdleDeny, Tie}
use Rattle.aa_findings.specs.Files.{applies_at, overrules, shares, is_executed, is_written}
use Rattle.aa_findings.specs.Rules.{lets_free}
use Rattle.aa_findings.specs.Gathered.{shows, shown_at}
use Rattle.aa_findings.specs.Places.{places_from, places, has, list_at}
use Rattle.aa_findings.specs.Applied.{is_owners, AreApplied}
use Rattle.aa_findings.proofs.Placing.{places_ext, places_map, placed_is, places_kept}

abbrev meets : List ℕ → FileRule → Bool
meets path r = some_match any_sort path r.patterns

matching_is : (path : List ℕ) (n : ℕ) (rules : List FileRule) → matching_from path n rules ≡ places_from (meets path) n rules
matching_is path n [] = refl
matching_is path n (r ∷ rs) = ap (λ l. cond (meets path r) (n ∷ l) l) (matching_is path (suc n) rs)

-- the rules of a profile that match a path
pub rules_met : (profiles : List Profile) (number : ℕ) (p : Profile) (path : List ℕ) → slice_get profiles number ≡ Some p → rules_matching profiles number path ≡ places (meets path) p.files
rules_met profiles number p path e = ap (λ (o : Option Profile). matching_from path 0 (option_map_or (λ (q : Profile). q.files) o [])) e ∙ matching_is path 0 p.files

-- all of them, where the task's user owns the file
pub all_apply : (row : Row) (rules : List FileRule) → row.owned ≡ true → places (meets row.path) rules ≡ places (λ r. applies_at r row) rules
all_apply row rules owned = places_ext (meets row.path) (λ r. applies_at r row) 0 rules (λ r. sym (ap (λ (o : Bool). (o || not r.owner) && meets row.path r) owned))

-- else those that are about files of others too
pub others_apply : (row : Row) (rules : List FileRule) → row.owned ≡ false → filter (λ n. not (is_owners rules n)) (places (meets row.path) rules) ≡ places (λ r. applies_at r row) rules
others_apply row rules owned =
    places_kept (λ n. not (is_owners rules n)) (meets row.path) (λ r. not r.owner) 0 rules
    (λ i n r e g. let same : n ≡ i = omega (arith, e) in ap (λ (o : Option FileRule). not (option_map_or (λ (q : FileRule). q.owner) o false)) (ap (slice_get rules) same ∙ g))
    ∙ places_ext (λ r. not r.owner && meets row.path r) (λ r. applies_at r row) 0 rules (λ r. sym (ap (λ (o : Bool). (o || not r.owner) && meets row.path r) owned))

-- the rows at which each rule applies, by the rules that apply to each row
pub are_applied : (rules : List FileRule) (rows : List Row) (all index : List (List ℕ)) → all ≡ map (λ row. places (λ r. applies_at r row) rules) rows → length index ≡ length rules
    → ((n : ℕ) → n < length rules → list_at index n ≡ places (has n) all) → AreApplied rules rows index
are_applied rules rows all index are many each = record {
  many = many;
  each = λ n r e.
      each n (slice_get_within rules n r e)
      ∙ ap (places (has n)) are
      ∙ places_map (has n) (λ row. places (λ q. applies_at q row) rules) 0 rows
      ∙ places_ext (λ row. has n (places (λ q. applies_at q row) rules)) (applies_at r) 0 rows (λ row. placed_is (λ q. applies_at q row) rules n r e);
}

and_none : (a b : Bool) → b ≡ false → (a && b) ≡ false
and_none true b e = e
and_none false b e = refl

shows_none : (kind : Kind) (r : FileRule) (row : Row) → applies_at r row ≡ false → shows kind r row ≡ false
shows_none UnconfinedExec r row e = and_none (lets_free r) (is_executed row && applies_at r row) (and_none (is_executed row) (applies_at r row) e)
shows_none WrittenExec r row e =
    and_none (not r.deny) (is_executed row && (is_written r row && applies_at r row))
    (and_none (is_executed row) (is_written r row && applies_at r row) (and_none (is_written r row) (applies_at r row) e))
shows_none AllFiles r row e = refl
shows_none AnyProfile r row e = refl
shows_none Duplicate r row e = refl
shows_none IdleDeny r row e = refl
shows_none Tie r row e = refl

-- nothing shows where the rule doesn't apply
pub shown_none : (kind : Kind) (r : FileRule) (row : Row) → applies_at r row ≡ false → shown_at kind r row ≡ []
shown_none kind r row e = ap (λ b. cond b (row.path ∷ []) []) (shows_none kind r row e)

pub overrules_none : (r : FileRule) (row : Row) → applies_at r row ≡ false → overrules r row ≡ false
overrules_none r row e = and_none (shares r.perms.0 row.sets.allow.0) (applies_at r row) e
