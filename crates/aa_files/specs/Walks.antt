-- A walk over the includes of a main text.
-- Source: apparmor.d(5), "#include mechanism"; own.
use Rattle.std.specs.Prelude.{ℕ, ◌≡◌, ◌+◌, ◌≤◌, List, ◌∷◌, length, take, map, flat_map, Option, Some, None, option_map, option_to_list, slice_get, Bool, IfSome, All, Contains, Vec}
use Rattle.std.specs.Map.{lookup}
use Rattle.std.specs.declared.alloc.Global.{Global}
use Rattle.std.specs.declared.cmp.Ordering.{Ordering}
use Rattle.std.specs.Ordering.{nat_cmp, is_eq}
use Rattle.std.specs.Cmp.Lexicographic.{slice_cmp}
use Rattle.aa_words.specs.Includes.{included_name}
use Rattle.aa_words.specs.Found.{IncludeData, HasIncludes}
use Rattle.aa_files.specs.Searches.{searched}
use Rattle.aa_files.specs.declared.unit.Source.{Source}
use Rattle.aa_files.specs.Names.{names_in_angles}
use Rattle.aa_files.specs.Files.{Files, read_at, first_taken}

-- a name
abbrev pub Name : Type 0
Name = Vec ℕ Global

-- a name that was looked up, and the number of its source if it has one
abbrev pub Entry : Type 0
Entry = Name × Option ℕ

-- names in the order of their bytes
abbrev pub by_bytes : Name → Name → Ordering
by_bytes a b = slice_cmp nat_cmp a.items b.items

-- what is known of a name
abbrev pub known_of : List Entry → List ℕ → Option (Option ℕ)
known_of entries name = lookup (λ k. is_eq (slice_cmp nat_cmp name k.items)) entries

-- what an include asks for: its name, and the paths at which its source is searched
abbrev pub Asked : Type 0
Asked = List ℕ × List (List ℕ)

-- an include's name, and the paths at which it is looked for
abbrev pub asked_by : List (List ℕ) → IncludeData → Asked
asked_by folders i = (included_name i.text, searched (names_in_angles i.text) (included_name i.text) folders)

-- what the includes of a text ask for
pub record Asks (folders : List (List ℕ)) (text : List ℕ) (asked : List Asked) : Type 0 where
  pub includes : List IncludeData
  pub of_text : HasIncludes text includes
  pub each : asked ≡ map (asked_by folders) includes

-- an include of one of the texts asks for this
pub record IsIncluded (folders texts : List (List ℕ)) (a : Asked) : Type 0 where
  pub text : List ℕ
  pub among : Contains texts text
  pub asked : List Asked
  pub asks : Asks folders text asked
  pub has : Contains asked a

-- the main text, and behind it those of the sources in the order in which they were found
abbrev pub walked_texts : List ℕ → List Source → List (List ℕ)
walked_texts main sources = main ∷ map (λ s. s.text.items) sources

-- This is read at one of these paths: where it is known what lies where, at the first at which something lies, and it is that.
pub record LiesAt (files : Option Files) (paths : List (List ℕ)) (path : List ℕ) (read : List ℕ × Bool) : Type 0 where
  pub searched : Contains paths path
  pub first : IfSome files (λ f. first_taken f paths ≡ Some path)
  pub is : IfSome files (λ f. option_map (read_at path) (f path) ≡ Some read)

-- nothing lies at any of these paths, where that is known
abbrev pub NothingAt : Option Files → List (List ℕ) → Type 0
NothingAt files paths = IfSome files (λ f. first_taken f paths ≡ None)

-- what a name leads to is found at these paths too: its source lies at one of them, or it has none and nothing lies there
abbrev pub IsFoundAt : Option Files → List Source → List (List ℕ) → Option ℕ → Type 0
IsFoundAt files sources paths None = NothingAt files paths
IsFoundAt files sources paths (Some n) = IfSome (slice_get sources n) (λ s. Contains paths s.path.items)

-- An include was looked up: its name is known, and leads to what is found at the include's own paths.
pub record IsLookedUp (files : Option Files) (sources : List Source) (entries : List Entry) (a : Asked) : Type 0 where
  pub number : Option ℕ
  pub known : known_of entries a.0 ≡ Some number
  pub found : IsFoundAt files sources a.1 number

-- each include of a text was looked up
pub record IsClosed (files : Option Files) (folders : List (List ℕ)) (sources : List Source) (entries : List Entry) (text : List ℕ) : Type 0 where
  pub asked : List Asked
  pub asks : Asks folders text asked
  pub each : All (IsLookedUp files sources entries) asked

-- The sources and the names so far: each source has a name of its own and lies where an include of the main text or of a source
-- before it is searched, and a name without a source is that of an include for which nothing lies anywhere.
pub record IsWalk (files : Option Files) (folders : List (List ℕ)) (main : List ℕ) (sources : List Source) (entries : List Entry) : Type 0 where
  pub few : length sources ≤ 4095
  pub named : (n : ℕ) (s : Source) → slice_get sources n ≡ Some s → known_of entries s.name.items ≡ Some (Some n)
  pub led : (name : List ℕ) (n : ℕ) → known_of entries name ≡ Some (Some n) → (s : Source) × (slice_get sources n ≡ Some s) × (s.name.items ≡ name)
  pub reached : (n : ℕ) (s : Source) → slice_get sources n ≡ Some s
      → (paths : List (List ℕ)) × IsIncluded folders (take (n + 1) (walked_texts main sources)) (s.name.items, paths) × LiesAt files paths s.path.items
      (s.text.items, s.is_folder)
  pub missing : (name : List ℕ) → known_of entries name ≡ Some None → (paths : List (List ℕ)) × IsIncluded folders (walked_texts main sources) (name, paths) × NothingAt files paths

-- the sources by their names
abbrev pub in_order : List Entry → List ℕ
in_order entries = flat_map (λ e. option_to_list e.1) entries
