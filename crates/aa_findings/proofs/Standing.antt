-- Rows at the paths of the regions stand for all files.
use Rattle.std.proofs.Common.{◌≡◌, ℕ, List, [], ◌∷◌, ◌++◌, Bool, true, false, Contains, refl, subst, ⊎_elim}
use Rattle.std.specs.List.{flat_map}
use Rattle.std.proofs.lemmas.List.Elements.{Contains-append_left, Contains-push}
use Rattle.aa_pattern.specs.declared.item.Item.{Item}
use Rattle.aa_pattern.specs.declared.pattern.Pattern.{Pattern}
use Rattle.aa_pattern.specs.Matching.{is_match}
use Rattle.aa_model.specs.declared.rule.FileRule.{FileRule}
use Rattle.aa_regions.specs.declared.regions.Region.{Region}
use Rattle.aa_regions.specs.Regions.{IsAsked, ArePathRegions}
use Rattle.aa_compile.specs.Rows.{patterns_of}
use Rattle.aa_compile.proofs.ConflictLemmas.{in_head, in_tail, in_cases, not_in}
use Rattle.aa_representatives.proofs.Standing.{same_list}
use Rattle.aa_findings.proofs.Elements.{in_flat_map, flat_map_in}
use Rattle.aa_findings.specs.declared.rows.Row.{Row}
use Rattle.aa_findings.specs.declared.fault.FindingsFault.{FindingsFault}
use Rattle.aa_findings.specs.declared.fault.FindingsFault.TheVariants.{NoMemory, TooManyPatterns, TooManyStates}
use Rattle.aa_findings.specs.Faults.{IsFaultOf}
use Rattle.aa_findings.specs.Rows.{below_root, row_of, rows_at, StandsFor, AreRows, HasNoRows}

module _ (rules : List FileRule) (all : Pattern) (regions : List Region) (is_all : all.items.items ≡ below_root) (are : ArePathRegions (patterns_of rules ++ all ∷ []) regions) where
  abbrev pub at_region : Region → List Row
  at_region r = rows_at rules r.witness

  told : (path : List ℕ) → IsAsked path → (row : Row) → Contains (rows_at rules path) row → IsAsked row.path × (row ≡ row_of rules row.path row.owned)
  told path asked row c =
      ⊎_elim
      (λ (e : row_of rules path true ≡ row). is_so true row e)
      (λ (d : Contains (row_of rules path false ∷ []) row).
      ⊎_elim (λ (e : row_of rules path false ≡ row). is_so false row e) (λ (n : Contains [] row). absurd (not_in row n)) (in_cases (row_of rules path false) row [] d))
      (in_cases (row_of rules path true) row (row_of rules path false ∷ []) c)
    where
      is_so : (owned : Bool) (row : Row) → row_of rules path owned ≡ row → IsAsked row.path × (row ≡ row_of rules row.path row.owned)
      is_so owned row e = subst (λ (x : Row). IsAsked x.path × (x ≡ row_of rules x.path x.owned)) e (asked, refl)

  here : (path : List ℕ) (owned : Bool) → Contains (rows_at rules path) (row_of rules path owned)
  here path true = in_head (row_of rules path true) (row_of rules path false ∷ [])
  here path false = in_tail (row_of rules path true) (row_of rules path false) (row_of rules path false ∷ []) (in_head (row_of rules path false) [])

  standing : (path : List ℕ) (owned : Bool) → IsAsked path → (row : Row) × Contains (flat_map at_region regions) row × StandsFor rules path owned row
  standing path owned asked =
      let found = are.all path asked in
      let region = are.each found.0 found.1 in
      let w = found.0.witness in
      let alike = same_list (patterns_of rules ++ all ∷ []) path w found.0.numbers found.2 region.lists in (
        row_of rules w owned,
        flat_map_in at_region regions found.0 (row_of rules w owned) found.1 (here w owned),
        record {
          owned_is = refl;
          alike = λ p c. alike p (Contains-append_left (patterns_of rules) (all ∷ []) p c);
          below = subst (λ (items : List Item). is_match items path ≡ is_match items w) is_all (alike all (Contains-push (patterns_of rules) all));
          short = region.shortest path asked found.2;
        },
      )

  pub rows_stand : AreRows rules (flat_map at_region regions)
  rows_stand = record {
    each = λ row c. let t = in_flat_map at_region regions row c in told t.0.witness (are.each t.0 t.1).asked row t.2;
    all = standing;
  }

-- the same by what the code calls these
pub rows_are : (rules read : List FileRule) (all : Pattern) (found regions : List Region) (rows : List Row) → read ≡ rules → all.items.items ≡ below_root
    → ArePathRegions (patterns_of read ++ all ∷ []) found → regions ≡ found → rows ≡ flat_map (λ (r : Region). rows_at rules r.witness) regions → AreRows rules rows
rows_are rules read all found regions rows e is are f g =
    rw (g, f) (rows_stand rules all found is (subst (λ (rs : List FileRule). ArePathRegions (patterns_of rs ++ all ∷ []) found) e are))

-- why there are none, by why there are no regions
pub no_rows : (rules : List FileRule) (all : Pattern) (patterns : List Pattern) (limit : ℕ) (e : FindingsFault) → patterns ≡ patterns_of rules ++ all ∷ [] → all.items.items ≡ below_root
    → IsFaultOf patterns limit e → HasNoRows rules limit e
no_rows rules all patterns limit NoMemory same is why = tt
no_rows rules all patterns limit TooManyPatterns same is why = (all, is, subst (λ (ps : List Pattern). IsFaultOf ps limit TooManyPatterns) same why)
no_rows rules all patterns limit TooManyStates same is why = (all, is, subst (λ (ps : List Pattern). IsFaultOf ps limit TooManyStates) same why)
