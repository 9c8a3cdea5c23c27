-- Files that stand for all that can be asked for: a rule looks at a path only through its patterns.
-- Source: own.
use Rattle.std.specs.Prelude.{◌≡◌, ◌≤◌, ℕ, List, [], ◌∷◌, ◌++◌, Bool, true, false, Contains, length}
use Rattle.aa_pattern.specs.declared.item.Item.{Item, Byte, DeepOne}
use Rattle.aa_pattern.specs.declared.pattern.Pattern.{Pattern}
use Rattle.aa_pattern.specs.Matching.{is_match}
use Rattle.aa_model.specs.declared.rule.FileRule.{FileRule}
use Rattle.aa_regions.specs.Regions.{IsAsked}
use Rattle.aa_compile.specs.FileRules.{file_verdict}
use Rattle.aa_compile.specs.Rows.{patterns_of}
use Rattle.aa_representatives.specs.Alike.{MatchAlike}
use Rattle.aa_findings.specs.declared.rows.Row.{Row}
use Rattle.aa_findings.specs.declared.fault.FindingsFault.{FindingsFault}
use Rattle.aa_findings.specs.declared.fault.FindingsFault.TheVariants.{NoMemory, TooManyPatterns, TooManyStates}
use Rattle.aa_findings.specs.Faults.{IsFaultOf}

-- the items of /**
abbrev pub below_root : List Item
below_root = Byte 47 ∷ DeepOne ∷ []

-- what the rules say of a file
abbrev pub row_of : List FileRule → List ℕ → Bool → Row
row_of rules path owned = record { path = path; owned = owned; is_below = is_match below_root path; sets = file_verdict rules path owned }

-- of the one at the path, where the task's user owns it, and where others do
abbrev pub rows_at : List FileRule → List ℕ → List Row
rows_at rules path = row_of rules path true ∷ row_of rules path false ∷ []

-- the row stands for the file: the rules and /** match both paths alike, and its path is no longer
pub record StandsFor (rules : List FileRule) (path : List ℕ) (owned : Bool) (row : Row) : Type 0 where
  pub owned_is : row.owned ≡ owned
  pub alike : MatchAlike (patterns_of rules) path row.path
  pub below : is_match below_root path ≡ row.is_below
  pub short : length row.path ≤ length path

-- rows tell what the rules say of files that can be asked for, and for each such file one of them stands
pub record AreRows (rules : List FileRule) (rows : List Row) : Type 0 where
  pub each : (row : Row) → Contains rows row → IsAsked row.path × (row ≡ row_of rules row.path row.owned)
  pub all : (path : List ℕ) (owned : Bool) → IsAsked path → (row : Row) × Contains rows row × StandsFor rules path owned row

-- why there are no rows, unless memory ran out: the patterns of the rules and /** are too many, or need more states than the limit
abbrev pub HasNoRows : List FileRule → ℕ → FindingsFault → Type 0
HasNoRows rules limit NoMemory = Unit {0}
HasNoRows rules limit TooManyPatterns = (all : Pattern) × (all.items.items ≡ below_root) × IsFaultOf (patterns_of rules ++ all ∷ []) limit TooManyPatterns
HasNoRows rules limit TooManyStates = (all : Pattern) × (all.items.items ≡ below_root) × IsFaultOf (patterns_of rules ++ all ∷ []) limit TooManyStates
