-- Why a unit can't be read.
-- Source: own.
use Rattle.std.specs.Prelude.{ℕ, ◌≡◌, ◌≢◌, ◌≤◌, List, length, take, map, Bool, Option, Some, None, MatchOption, slice_get, Err, All, Contains}
use Rattle.aa_words.specs.Found.{IncludeData, HasIncludes}
use Rattle.aa_text.specs.declared.fault.FaultReport.{FaultReport}
use Rattle.aa_base.specs.declared.unread.Unread.{Unread}
use Rattle.aa_base.specs.declared.unread.Unread.TheVariants as unread
use Rattle.aa_files.specs.declared.unit.Source.{Source}
use Rattle.aa_files.specs.declared.unit.Unit as unit
use Rattle.aa_files.specs.declared.unit.UnitFault.{UnitFault}
use Rattle.aa_files.specs.declared.unit.UnitFault.TheVariants.{NoMemory, At, Ambiguous}
use Rattle.aa_files.specs.Files.{Files}
use Rattle.aa_files.specs.FilesData.{IsMain, IsMainText}
use Rattle.aa_files.specs.Walks.{Name, known_of, Asked, asked_by, LiesAt, NothingAt, IsLookedUp}
use Rattle.aa_files.specs.WalkData.{IsWalkedTo}
use Rattle.aa_files.specs.Nodes.{text_of_node}
use Rattle.aa_files.specs.Ambiguities.{difference, SaysAmbiguous}

-- what can't be read at a path: want of memory stands for itself
abbrev pub fault_of : Name → Unread → UnitFault
fault_of path unread.NoMemory = NoMemory
fault_of path unread.NotFound = At path unread.NotFound
fault_of path unread.NotAllowed = At path unread.NotAllowed
fault_of path unread.NotAFile = At path unread.NotAFile
fault_of path unread.Failed = At path unread.Failed
fault_of path unread.TooLarge = At path unread.TooLarge

-- a look at one of these paths failed, and not because nothing lies there
abbrev pub IsLookFault : List (List ℕ) → UnitFault → Type 0
IsLookFault paths NoMemory = Unit {0}
IsLookFault paths (At path why) = Contains paths path.items × (why ≢ unread.NotFound)
IsLookFault paths (Ambiguous report) = ⊥

-- the path at which something lies among these, if there is one
abbrev pub IsHere : Option Files → List (List ℕ) → Option (List ℕ) → Type 0
IsHere files paths here = MatchOption here (NothingAt files paths) (λ path. (read : List ℕ × Bool) × LiesAt files paths path read)

-- The include at a byte of a node's text has a name whose source lies at none of the include's own paths, or that has none, and
-- something lies at one of these; and it is said so.
pub data IsAmbiguous (files : Option Files) (u : unit.Unit) (node byte : ℕ) (a : Asked) (r : FaultReport) : Type 0 where
  Elsewhere : (number : ℕ) (source : Source) (here : Option (List ℕ)) → known_of u.known.entries a.0 ≡ Some (Some number)
      → slice_get u.sources.items number ≡ Some source → (Contains a.1 source.path.items → ⊥) → IsHere files a.1 here
      → SaysAmbiguous u node byte (difference (Some source.path.items) here) r → IsAmbiguous files u node byte a r
  OnlyHere : (path : List ℕ) (read : List ℕ × Bool) → known_of u.known.entries a.0 ≡ Some None → LiesAt files a.1 path read → SaysAmbiguous u node byte (difference None (Some path)) r → IsAmbiguous files u node byte a r

-- why the source of an include can't be told
abbrev pub IsLookUpFault : Option Files → unit.Unit → ℕ → ℕ → Asked → UnitFault → Type 0
IsLookUpFault files u node byte a NoMemory = Unit {0}
IsLookUpFault files u node byte a (At path why) = Contains a.1 path.items × (why ≢ unread.NotFound)
IsLookUpFault files u node byte a (Ambiguous report) = IsAmbiguous files u node byte a report

-- The walk over the includes of a main text came to an include whose source can't be told. All includes were looked up in the texts
-- before the one that has it, and there those before it.
pub record IsWalkFault (files : Option Files) (folders : List (List ℕ)) (path main : List ℕ) (fault : UnitFault) : Type 0 where
  pub so_far : unit.Unit
  pub node : ℕ
  pub walked : IsWalkedTo files folders path main node so_far
  pub within : node ≤ length so_far.sources.items
  pub includes : List IncludeData
  pub of_text : HasIncludes (text_of_node so_far node) includes
  pub number : ℕ
  pub include : IncludeData
  pub is : slice_get includes number ≡ Some include
  pub before : All (IsLookedUp files so_far.sources.items so_far.known.entries) (map (asked_by folders) (take number includes))
  pub stopped : IsLookUpFault files so_far node include.byte (asked_by folders include) fault

-- The main text can't be read, or the walk over its includes stops.
pub data IsLoadFault (files : Option Files) (input : Option (List ℕ)) (folders : List (List ℕ)) (path : List ℕ) (fault : UnitFault) : Type 0 where
  OfMain : (name : Name) (why : Unread) → name.items ≡ path → fault ≡ fault_of name why → IsMain files input path (Err why) → IsLoadFault files input folders path fault
  OfIncludes : (text : List ℕ) → IsMainText files input path text → IsWalkFault files folders path text fault → IsLoadFault files input folders path fault
