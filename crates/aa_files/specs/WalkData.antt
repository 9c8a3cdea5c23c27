-- A walk, as the code has it.
-- Source: apparmor.d(5), "#include mechanism"; own.
use Rattle.std.specs.Prelude.{ℕ, ◌≡◌, ◌<◌, List, [], ◌∷◌, ◌++◌, length, take, map, Bool, Option, Some, None, All}
use Rattle.std.specs.BTreeMap.{insert_entry, IsOrdered}
use Rattle.aa_words.specs.Found.{IncludeData, HasIncludes}
use Rattle.aa_files.specs.Texts.{texts}
use Rattle.aa_files.specs.declared.unit.Source.{Source}
use Rattle.aa_files.specs.declared.unit.Unit as unit
use Rattle.aa_files.specs.declared.walk.Wanted.{Wanted}
use Rattle.aa_files.specs.Files.{Files}
use Rattle.aa_files.specs.Walks.{Name, Entry, by_bytes, known_of, Asked, asked_by, IsClosed, walked_texts, LiesAt, NothingAt, IsFoundAt, IsWalk, in_order}

-- what an include asks for, without where it lies in memory
abbrev pub asked : Wanted → Asked
asked w = (w.name.items, texts w.paths.items)

-- the same with its include's first byte
abbrev pub wanted_data : Wanted → ℕ × Asked
wanted_data w = (w.byte, asked w)

-- an include's byte, and what it asks for
abbrev pub wants : List (List ℕ) → IncludeData → ℕ × Asked
wants folders i = (i.byte, asked_by folders i)

-- what each include of a text wants, in order
pub record AreWanted (folders : List (List ℕ)) (text : List ℕ) (ws : List Wanted) : Type 0 where
  pub includes : List IncludeData
  pub of_text : HasIncludes text includes
  pub each : map wanted_data ws ≡ map (wants folders) includes

-- one source more, behind the others
pub record IsAdded (name path : List ℕ) (read : List ℕ × Bool) (sources : List Source) (entries : List Entry) (sources' : List Source) (entries' : List Entry) : Type 0 where
  pub key : Name
  pub source : Source
  pub key_is : key.items ≡ name
  pub name_is : source.name.items ≡ name
  pub path_is : source.path.items ≡ path
  pub text_is : source.text.items ≡ read.0
  pub folder_is : source.is_folder ≡ read.1
  pub room : length sources < 4095
  pub pushed : sources' ≡ sources ++ source ∷ []
  pub entered : entries' ≡ insert_entry by_bytes entries key (Some (length sources))

-- what a look-up adds: nothing where the name is known and leads to what is found here too, else the name, and its source if there is one
pub data Adds (files : Option Files) (a : Asked) (sources : List Source) (entries : List Entry) (sources' : List Source) (entries' : List Entry) : Type 0 where
  Old : (was : Option ℕ) → known_of entries a.0 ≡ Some was → IsFoundAt files sources a.1 was → sources' ≡ sources → entries' ≡ entries → Adds files a sources entries sources' entries'
  Missing : (key : Name) → key.items ≡ a.0 → known_of entries a.0 ≡ None → NothingAt files a.1 → sources' ≡ sources → entries' ≡ insert_entry by_bytes entries key None → Adds files a sources entries sources' entries'
  New : (path : List ℕ) (read : List ℕ × Bool) → known_of entries a.0 ≡ None → LiesAt files a.1 path read → IsAdded a.0 path read sources entries sources' entries' → Adds files a sources entries sources' entries'

-- a look-up changes the sources and the names alone
pub record LooksUp (files : Option Files) (a : Asked) (old new : unit.Unit) : Type 0 where
  pub path : new.path.items ≡ old.path.items
  pub text : new.text.items ≡ old.text.items
  pub adds : Adds files a old.sources.items old.known.entries new.sources.items new.known.entries

-- the texts before a number are walked
pub record IsWalkedTo (files : Option Files) (folders : List (List ℕ)) (path main : List ℕ) (number : ℕ) (u : unit.Unit) : Type 0 where
  pub path_is : u.path.items ≡ path
  pub text_is : u.text.items ≡ main
  pub walk : IsWalk files folders main u.sources.items u.known.entries
  pub closed : All (IsClosed files folders u.sources.items u.known.entries) (take number (walked_texts main u.sources.items))

-- What a unit is: its texts are walked to the end, so that each name that one of them includes is known, and the sources are
-- numbered in byte order of their names.
pub record IsUnit (files : Option Files) (folders : List (List ℕ)) (path main : List ℕ) (u : unit.Unit) : Type 0 where
  pub path_is : u.path.items ≡ path
  pub text_is : u.text.items ≡ main
  pub walk : IsWalk files folders main u.sources.items u.known.entries
  pub closed : All (IsClosed files folders u.sources.items u.known.entries) (walked_texts main u.sources.items)
  pub sorted : IsOrdered by_bytes u.known
  pub order : u.order.items ≡ in_order u.known.entries
