-- What a policy has to pass, in this order, and what refuses it.
-- Source: own.
use Rattle.std.specs.Prelude.{◌≡◌, ℕ, ◌+◌, ◌<◌, ◌≤◌, List, [], ◌∷◌, map, length, Some}
use Rattle.std.specs.List.{slice_get}
use Rattle.aa_base.specs.declared.fault.PolicyFault.{PolicyFault}
use Rattle.aa_base.specs.declared.fault.PolicyKind.{PolicyKind}
use Rattle.aa_base.specs.declared.fault.PolicyKind.TheVariants.{ConflictingExec, TooManyStates as ManyStates}
use Rattle.aa_base.specs.declared.fault.Spot.{Spot}
use Rattle.aa_base.specs.Kinds.{no_memory}
use Rattle.aa_pattern.specs.Limits.{most_patterns}
use Rattle.aa_pattern.specs.declared.pattern.Pattern.{Pattern}
use Rattle.aa_model.specs.declared.policy.Profile.{Profile}
use Rattle.aa_auto.specs.Pairs.{TellsBytes}
use Rattle.aa_auto.specs.Tables.{HasPlaces, IsAutomaton}
use Rattle.aa_auto.specs.declared.build.BuildFault.{BuildFault}
use Rattle.aa_auto.specs.declared.build.BuildFault.TheVariants.{NoMemory, TooManyStates}
use Rattle.aa_compile.specs.declared.rows.RowsFault.{RowsFault}
use Rattle.aa_compile.specs.declared.rows.RowsFault.TheVariants.{NoMemory as NoRowMemory, TooManyStates as TooManyRows, Conflict}
use Rattle.aa_compile.specs.FileRules.{Conflicts}
use Rattle.aa_compile.specs.Ways.{way_by}
use Rattle.aa_compile.specs.Rows.{AreRowsOf, patterns_of}
use Rattle.aa_compile.specs.Matched.{owners_from}
use Rattle.aa_compile.specs.Patterns.{HasAutomaton}
use Rattle.aa_compile.specs.Attached.{AnswerTable, Attaches, AreAttached, attachments_by, pattern_of}
use Rattle.aa_compile.specs.declared.tables.ProfileRows.{ProfileRows}
pub use Rattle.aa_compile.specs.Transitions.{children, tops}
use Rattle.aa_compile.specs.Transitions.{targets_by}

-- the fault of a kind at a place
abbrev pub fault_at : PolicyKind → Spot → PolicyFault
fault_at kind at = record { kind = kind; at = at }

-- the fault of a profile whose rows can't be made
abbrev pub rows_fault : RowsFault → Spot → PolicyFault
rows_fault NoRowMemory at = no_memory
rows_fault TooManyRows at = fault_at ManyStates at
rows_fault Conflict at = fault_at ConflictingExec at

-- the fault of attachments whose automaton can't be made
abbrev pub states_fault : BuildFault → Spot → PolicyFault
states_fault NoMemory at = no_memory
states_fault TooManyStates at = fault_at ManyStates at

-- the attachments of the profiles with these numbers, in order
abbrev pub attached_patterns : List Profile → List ℕ → List Pattern
attached_patterns profiles numbers = map pattern_of (attachments_by profiles numbers)

-- the automaton of its file rules, its rules on execution, and the automaton of its children's attachments
pub record Passes (profiles : List Profile) (limit number : ℕ) (p : Profile) : Type 0 where
  pub files : HasAutomaton (patterns_of p.files) limit
  pub free : Conflicts p.files → ⊥
  pub below : HasAutomaton (attached_patterns profiles (children profiles number)) limit

-- the first of these that doesn't pass, and the fault that it is
pub data Fails (profiles : List Profile) (limit number : ℕ) (p : Profile) (f : PolicyFault) : Type 0 where
  ManyFiles : f ≡ fault_at ManyStates p.at → HasPlaces (patterns_of p.files) (limit + 1) → Fails profiles limit number p f
  Conflicting : f ≡ fault_at ConflictingExec p.at → HasAutomaton (patterns_of p.files) limit → Conflicts p.files → Fails profiles limit number p f
  ManyChildren : f ≡ fault_at ManyStates p.at → HasAutomaton (patterns_of p.files) limit → (Conflicts p.files → ⊥)
      → HasPlaces (attached_patterns profiles (children profiles number)) (limit + 1) → Fails profiles limit number p f

-- the profiles before a number pass
abbrev pub PassBefore : List Profile → ℕ → ℕ → Type 0
PassBefore profiles limit n = (k : ℕ) (p : Profile) → k < n → slice_get profiles k ≡ Some p → Passes profiles limit k p

-- a profile is the first that doesn't pass
pub record Refuses (profiles : List Profile) (limit : ℕ) (f : PolicyFault) : Type 0 where
  pub number : ℕ
  pub profile : Profile
  pub is : slice_get profiles number ≡ Some profile
  pub before : PassBefore profiles limit number
  pub fails : Fails profiles limit number profile f

-- the name of the first profile
abbrev pub first_spot : List Profile → Spot
first_spot [] = record { file = 0; byte = 0 }
first_spot (p ∷ rest) = p.at

-- first comes the automaton of the top-level attachments, and then profile by profile
pub data IsRefused (profiles : List Profile) (limit : ℕ) (f : PolicyFault) : Type 0 where
  ManyTops : f ≡ fault_at ManyStates (first_spot profiles) → HasPlaces (attached_patterns profiles (tops profiles)) (limit + 1) → IsRefused profiles limit f
  AtProfile : HasAutomaton (attached_patterns profiles (tops profiles)) limit → Refuses profiles limit f → IsRefused profiles limit f

-- every check is passed
pub record IsAccepted (profiles : List Profile) (limit : ℕ) : Type 0 where
  pub above : HasAutomaton (attached_patterns profiles (tops profiles)) limit
  pub each : PassBefore profiles limit (length profiles)

-- what is kept for a profile says what its rules say
pub record IsRight (profiles : List Profile) (number : ℕ) (p : Profile) (r : ProfileRows) : Type 0 where
  pub files : AreRowsOf (way_by p.files) p.files r.files
  pub automaton : IsAutomaton (patterns_of p.files) r.files.table
  pub bytes : TellsBytes (patterns_of p.files) r.files.table
  pub few : length (patterns_of p.files) ≤ most_patterns
  pub below : Attaches profiles (children profiles number) r.children
  pub below_built : AreAttached profiles (children profiles number) r.children
  pub targets : r.targets.items ≡ targets_by profiles p
  pub owners : r.owners.items ≡ owners_from 0 p.files

-- so for the first n
pub record AreRight (profiles : List Profile) (n : ℕ) (rows : List ProfileRows) : Type 0 where
  pub many : length rows ≡ n
  pub each : (k : ℕ) (p : Profile) (r : ProfileRows) → slice_get profiles k ≡ Some p → slice_get rows k ≡ Some r → IsRight profiles k p r

-- what is kept says what the profiles say
pub record IsCompiled (profiles : List Profile) (above : AnswerTable) (rows : List ProfileRows) : Type 0 where
  pub tops_are : Attaches profiles (tops profiles) above
  pub tops_built : AreAttached profiles (tops profiles) above
  pub rows_are : AreRight profiles (length profiles) rows
