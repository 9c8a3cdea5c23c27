-- What is kept for each list of an automaton.
-- Source: own.
use Rattle.std.specs.Prelude.{◌≡◌, ℕ, List, Bool, true, false, if◌then◌else◌, map, Some, Contains, is_some}
use Rattle.std.specs.Option.{option_map, option_map_or}
use Rattle.std.specs.List.{slice_get, list_any, flat_map}
use Rattle.aa_pattern.specs.declared.pattern.Pattern.{Pattern}
use Rattle.aa_model.specs.declared.rule.Exec.{Exec}
use Rattle.aa_model.specs.declared.rule.FileRule.{FileRule}
use Rattle.aa_auto.specs.Tables.{Table, IsText, list_number, place_of}
use Rattle.aa_auto.specs.declared.build.BuildFault.{BuildFault}
use Rattle.aa_auto.specs.declared.build.BuildFault.TheVariants.{NoMemory, TooManyStates}
use Rattle.aa_compile.specs.declared.rows.RowsFault.{RowsFault}
use Rattle.aa_compile.specs.declared.rows.RowsFault.TheVariants.{NoMemory as NoRowMemory, TooManyStates as TooManyRows}
use Rattle.aa_compile.specs.declared.mark.Way.{Way}
use Rattle.aa_compile.specs.declared.mark.Mark.{Mark}
use Rattle.aa_compile.specs.declared.side.Chosen.{Chosen}
use Rattle.aa_compile.specs.declared.side.Side.{Side}
use Rattle.aa_compile.specs.declared.side.Verdict.{Verdict}
use Rattle.aa_compile.specs.declared.rows.Row.{Row}
use Rattle.aa_compile.specs.Gathered.{picked}
use Rattle.aa_compile.specs.Sides.{side_by, none_said}
use Rattle.aa_compile.specs.FileRules.{file_verdict, chosen, way_of}

-- an automaton, and a value for each of its lists
pub record RowTable : Type 0 where
  pub table : Table
  pub rows : List Row

-- the literal choice, or else that of all
abbrev pub choice_of : Side → Chosen
choice_of side = if is_some side.literal.way then side.literal else side.any

-- what is kept of what marks say
abbrev pub settled : Side → Verdict
settled side = record { sets = side.sets; chosen = choice_of side }

-- what these patterns say of what is owned, and of what isn't
abbrev pub row_by : List Mark → Row
row_by marks = record { owned = settled (side_by true marks); other = settled (side_by false marks) }

-- the same for each list of numbers
abbrev pub rows_by : List Mark → List (List ℕ) → List Row
rows_by marks lists = map (λ list. row_by (picked marks list)) lists

-- what it says of owned objects, or of others
abbrev pub verdict_of : Bool → Row → Verdict
verdict_of owned row = if owned then row.owned else row.other

-- what is said at the list of the row that a path leads to
abbrev pub verdict_at : RowTable → List ℕ → Bool → Verdict
verdict_at r path owned = option_map_or (verdict_of owned) (slice_get r.rows (list_number r.table (place_of r.table path))) (settled none_said)

-- it is what the rules say of the object; `number` numbers the ways to execute
pub record IsVerdictOf (number : Exec → Way) (rules : List FileRule) (path : List ℕ) (owned : Bool) (verdict : Verdict) : Type 0 where
  pub sets : verdict.sets ≡ file_verdict rules path owned
  pub way : verdict.chosen.way ≡ option_map number (way_of (chosen rules path owned))
  pub audited : verdict.chosen.audited ≡ list_any (λ r. r.audit) (chosen rules path owned)

-- each path leads to what the rules say of it
abbrev pub AreRowsOf : (Exec → Way) → List FileRule → RowTable → Type 0
AreRowsOf number rules r = (path : List ℕ) (owned : Bool) → IsText path → IsVerdictOf number rules path owned (verdict_at r path owned)

-- the patterns of the rules, in order
abbrev pub patterns_of : List FileRule → List Pattern
patterns_of rules = flat_map (λ r. r.patterns) rules

-- different ways have different numbers
abbrev pub TellsApart : (Exec → Way) → List FileRule → Type 0
TellsApart number rules = (r q : FileRule) (a b : Exec) → Contains rules r → Contains rules q → r.exec ≡ Some a → q.exec ≡ Some b → number a ≡ number b → a ≡ b

-- why rows can't be made, by why their automaton can't
abbrev pub fault_of : BuildFault → RowsFault
fault_of NoMemory = NoRowMemory
fault_of TooManyStates = TooManyRows
