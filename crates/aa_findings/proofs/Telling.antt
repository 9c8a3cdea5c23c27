-- What rows tell of a rule is so of the files that can be asked for.
use Rattle.std.proofs.Common.{◌≡◌, ℕ, ◌<◌, ◌≤◌, List, [], ◌∷◌, length, get_or, Bool, true, false, Option, Some, None, Contains, refl, sym, ap, ◌∙◌, subst, arith, ⊎_elim}
use Rattle.std.specs.Prelude.{◌↔◌, ◌||◌, ◌&&◌, not, bit_and, if◌then◌else◌}
use Rattle.std.specs.List.{list_any}
use Rattle.std.proofs.lemmas.List.{get_or_default}
use Rattle.aa_base.specs.Permissions.{only_exec}
use Rattle.aa_model.specs.declared.rule.FileRule.{FileRule}
use Rattle.aa_compile.specs.declared.sets.RuleSets.{RuleSets}
use Rattle.aa_compile.specs.Said.{granted}
use Rattle.aa_compile.specs.FileRules.{any_sort, applies_by, file_verdict}
use Rattle.aa_compile.proofs.ConflictLemmas.{in_head, in_cases, not_in}
use Rattle.aa_representatives.proofs.Matched.{of_rule, some_match_alike, verdict_alike}
use Rattle.aa_findings.proofs.Elements.{any_in, in_any, in_flat_map, flat_map_in}
use Rattle.aa_findings.proofs.Nearest.{IsNear, near}
use Rattle.aa_findings.specs.declared.finding.Kind.{Kind}
use Rattle.aa_findings.specs.declared.finding.Kind.TheVariants.{UnconfinedExec, WrittenExec, AllFiles, AnyProfile, Duplicate, IdleDeny, Tie}
use Rattle.aa_findings.specs.declared.rows.Row.{Row}
use Rattle.aa_findings.specs.Rows.{row_of, StandsFor, AreRows}
use Rattle.aa_findings.specs.Rules.{lets_free}
use Rattle.aa_findings.specs.Sameness.{same}
use Rattle.aa_findings.specs.Files.{to_write, shares, applies_at, is_unconfined_exec, is_written_exec, lacks, overrules, differ_at}
use Rattle.aa_findings.specs.Shortest.{nearest}
use Rattle.aa_findings.specs.Gathered.{shows, shown_at, shown_paths}
use Rattle.aa_findings.specs.Laws.{Passes, Somewhere, IsNearest, RowsTell}

module _ (rules : List FileRule) (rows : List Row) (are : AreRows rules rows) where
  -- a test that is passed by a file as by the row that stands for it
  abbrev Respects : (Row → Bool) → Type 0
  Respects test = (path : List ℕ) (owned : Bool) (row : Row) → StandsFor rules path owned row → row ≡ row_of rules row.path row.owned → test (row_of rules path owned) ≡ test row

  from_row : (test : Row → Bool) (row : Row) → Contains rows row → test row ≡ true → Passes rules test row.path row.owned
  from_row test row c e = let t = are.each row c in (t.0, ap test (sym t.1) ∙ e)

  module _ (test : Row → Bool) (respects : Respects test) where
    from_file : (path : List ℕ) (owned : Bool) → Passes rules test path owned → (row : Row) × Contains rows row × (test row ≡ true) × (length row.path ≤ length path)
    from_file path owned passes =
        let s = are.all path owned passes.0 in
        (s.0, s.1, sym (respects path owned s.0 s.2 (are.each s.0 s.1).1) ∙ passes.1, s.2.short)

    somewhere : (list_any test rows ≡ true) ↔ Somewhere rules test
    somewhere = (
      λ e. let t = in_any test rows e in (t.0.path, t.0.owned, from_row test t.0 t.1 t.2),
      λ s. let t = from_file s.0 s.1 s.2 in any_in test rows t.0 t.1 t.2,
    )

  module _ (r : FileRule) (c : Contains rules r) where
    module _ (path : List ℕ) (owned : Bool) (row : Row) (stands : StandsFor rules path owned row) (is : row ≡ row_of rules row.path row.owned) where
      applies_so : (q : FileRule) → Contains rules q → applies_by any_sort path owned q ≡ applies_by any_sort row.path row.owned q
      applies_so q d =
          ap (λ (b : Bool). (owned || not q.owner) && b) (some_match_alike path row.path any_sort q.patterns (λ p e. stands.alike p (of_rule rules q p d e)))
          ∙ ap (λ (o : Bool). applies_by any_sort row.path o q) (sym stands.owned_is)

      sets_are : file_verdict rules path owned ≡ row.sets
      sets_are =
          verdict_alike path row.path owned rules stands.alike ∙ ap (λ (o : Bool). file_verdict rules row.path o) (sym stands.owned_is) ∙ sym (ap (λ (x : Row). x.sets) is)

      written_so : is_written_exec r (row_of rules path owned) ≡ is_written_exec r row
      written_so =
          ap (λ (v : RuleSets). not r.deny && (shares (granted v) only_exec && (shares (granted v) (bit_and r.perms.0 to_write) && applies_by any_sort path owned r))) sets_are
          ∙ ap (λ (b : Bool). not r.deny && (shares (granted row.sets) only_exec && (shares (granted row.sets) (bit_and r.perms.0 to_write) && b))) (applies_so r c)

      free_so : is_unconfined_exec r (row_of rules path owned) ≡ is_unconfined_exec r row
      free_so =
          ap (λ (v : RuleSets). lets_free r && (shares (granted v) only_exec && applies_by any_sort path owned r)) sets_are
          ∙ ap (λ (b : Bool). lets_free r && (shares (granted row.sets) only_exec && b)) (applies_so r c)

      shows_so : (kind : Kind) → shows kind r (row_of rules path owned) ≡ shows kind r row
      shows_so UnconfinedExec = free_so
      shows_so WrittenExec = written_so
      shows_so AllFiles = refl
      shows_so AnyProfile = refl
      shows_so Duplicate = refl
      shows_so IdleDeny = refl
      shows_so Tie = refl

      lacks_so : lacks r (row_of rules path owned) ≡ lacks r row
      lacks_so =
          ap (λ (b : Bool). b && not (applies_by any_sort path true r)) stands.below
          ∙ ap (λ (b : Bool). row.is_below && not b) (some_match_alike path row.path any_sort r.patterns (λ p e. stands.alike p (of_rule rules r p c e)))

      overrules_so : overrules r (row_of rules path owned) ≡ overrules r row
      overrules_so =
          ap (λ (v : RuleSets). shares r.perms.0 v.allow.0 && applies_by any_sort path owned r) sets_are ∙ ap (λ (b : Bool). shares r.perms.0 row.sets.allow.0 && b) (applies_so r c)

      differ_so : (q : FileRule) → Contains rules q → differ_at r q (row_of rules path owned) ≡ differ_at r q row
      differ_so q d =
          ap (λ (b : Bool). not (same b (applies_by any_sort path owned q))) (applies_so r c) ∙ ap (λ (b : Bool). not (same (applies_at r row) b)) (applies_so q d)

    module _ (kind : Kind) where
      at_row : (row : Row) (path : List ℕ) → Contains (shown_at kind r row) path → (shows kind r row ≡ true) × (row.path ≡ path)
      at_row row path d = by (shows kind r row) refl d
        where
          by : (b : Bool) → shows kind r row ≡ b → Contains (if b then row.path ∷ [] else []) path → (shows kind r row ≡ true) × (row.path ≡ path)
          by true e d = (e, ⊎_elim (λ (s : row.path ≡ path). s) (λ (n : Contains [] path). absurd (not_in path n)) (in_cases row.path path [] d))
          by false e d = absurd (not_in path d)

      row_at : (row : Row) → shows kind r row ≡ true → Contains (shown_at kind r row) row.path
      row_at row e = subst (λ (b : Bool). Contains (if b then row.path ∷ [] else []) row.path) (sym e) (in_head row.path [])

      found : (path : List ℕ) → Contains (shown_paths kind rows r) path → (owned : Bool) × Passes rules (shows kind r) path owned
      found path d =
          let t = in_flat_map (shown_at kind r) rows path d in
          let s = at_row t.0 path t.2 in
          (t.0.owned, subst (λ (p : List ℕ). Passes rules (shows kind r) p t.0.owned) s.1 (from_row (shows kind r) t.0 t.1 s.0))

      listed : (path : List ℕ) (owned : Bool) → Passes rules (shows kind r) path owned → (k : ℕ) × (k < length (shown_paths kind rows r)) × (length (get_or (shown_paths kind rows r) k []) ≤ length path)
      listed path owned passes =
          let t = from_file (shows kind r) (λ p o row stands is. shows_so p o row stands is kind) path owned passes in
          let d = flat_map_in (shown_at kind r) rows t.0 t.0.path t.1 (row_at t.0 t.2) in
          let same_path = get_or_default (shown_paths kind rows r) d.0 [] t.0.path d.1 ∙ d.2 in
          (d.0, d.1, subst (λ (p : List ℕ). length p ≤ length path) (sym same_path) t.3)

      shown : (o : Option (List ℕ)) → IsNear (shown_paths kind rows r) (length (shown_paths kind rows r)) o → IsNearest rules (shows kind r) o
      shown None none = λ s. let l = listed s.0 s.1 s.2 in absurd (omega (arith, none, l.1))
      shown (Some best) (there, least) = (found best there, λ other owned passes. let l = listed other owned passes in let m = least l.0 l.1 in omega (arith, m, l.2))

    pub rows_tell : RowsTell rules rows r
    rows_tell = record {
      shown = λ kind. shown kind (nearest (shown_paths kind rows r) (length (shown_paths kind rows r))) (near (shown_paths kind rows r) (length (shown_paths kind rows r)) (omega arith));
      lacking = somewhere (lacks r) lacks_so;
      overruling = somewhere (overrules r) overrules_so;
      differing = λ q d. somewhere (differ_at r q) (λ path owned row stands is. differ_so path owned row stands is q d);
    }
