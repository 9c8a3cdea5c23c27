-- What rows and regions tell is so of the files and paths that can be asked for.
-- Source: own.
use Rattle.std.specs.Prelude.{◌≡◌, ◌↔◌, ◌≤◌, ℕ, List, length, Bool, true, Option, Some, None, is_some, Contains}
use Rattle.std.specs.List.{list_any}
use Rattle.aa_model.specs.declared.policy.Profile.{Profile}
use Rattle.aa_model.specs.declared.rule.FileRule.{FileRule}
use Rattle.aa_regions.specs.declared.regions.Region.{Region}
use Rattle.aa_regions.specs.Regions.{IsAsked}
use Rattle.aa_findings.specs.declared.rows.Row.{Row}
use Rattle.aa_findings.specs.Rows.{row_of}
use Rattle.aa_findings.specs.declared.finding.Kind.{Kind}
use Rattle.aa_findings.specs.Attached.{strong_at, tied_by, tied_paths}
use Rattle.aa_findings.specs.Files.{lacks, overrules, differ_at}
use Rattle.aa_findings.specs.Shortest.{nearest}
use Rattle.aa_findings.specs.Gathered.{shows, shown_paths}

-- a file that can be asked for passes a test of what the rules say of it
abbrev pub Passes : List FileRule → (Row → Bool) → List ℕ → Bool → Type 0
Passes rules test path owned = IsAsked path × (test (row_of rules path owned) ≡ true)

-- some file does
abbrev pub Somewhere : List FileRule → (Row → Bool) → Type 0
Somewhere rules test = (path : List ℕ) × (owned : Bool) × Passes rules test path owned

-- the path is that of a file that passes, of which none has a shorter one; without a path none passes
abbrev pub IsNearest : List FileRule → (Row → Bool) → Option (List ℕ) → Type 0
IsNearest rules test (Some path) = ((owned : Bool) × Passes rules test path owned) × ((other : List ℕ) (owned : Bool) → Passes rules test other owned → length path ≤ length other)
IsNearest rules test None = Somewhere rules test → ⊥

-- what the rows tell of a rule: at which file a finding shows, what it doesn't apply to, what it denies that another allows, and
-- where it applies without another, or that without it
pub record RowsTell (rules : List FileRule) (rows : List Row) (r : FileRule) : Type 0 where
  pub shown : (kind : Kind) → IsNearest rules (shows kind r) (nearest (shown_paths kind rows r) (length (shown_paths kind rows r)))
  pub lacking : (list_any (lacks r) rows ≡ true) ↔ Somewhere rules (lacks r)
  pub overruling : (list_any (overrules r) rows ≡ true) ↔ Somewhere rules (overrules r)
  pub differing : (q : FileRule) → Contains rules q → (list_any (differ_at r q) rows ≡ true) ↔ Somewhere rules (differ_at r q)

-- profile n and an earlier one of these are attached to a path that can be asked for, none of these more strongly
abbrev pub IsTiedAt : List Profile → List ℕ → ℕ → List ℕ → Type 0
IsTiedAt profiles group n path = IsAsked path × (is_some (tied_by n (strong_at profiles group path)) ≡ true)

-- the path is one at which they are, of which none is shorter; without a path there is none
abbrev pub IsNearestTie : List Profile → List ℕ → ℕ → Option (List ℕ) → Type 0
IsNearestTie profiles group n (Some path) = IsTiedAt profiles group n path × ((other : List ℕ) → IsTiedAt profiles group n other → length path ≤ length other)
IsNearestTie profiles group n None = (path : List ℕ) → IsTiedAt profiles group n path → ⊥

-- the regions tell of each profile whether it ties, and where
abbrev pub RegionsTell : List Profile → List ℕ → List Region → Type 0
RegionsTell profiles group regions = (n : ℕ) → IsNearestTie profiles group n (nearest (tied_paths profiles group n regions) (length (tied_paths profiles group n regions)))
