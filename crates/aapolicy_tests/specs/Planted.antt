-- What lies at the paths of a tree in memory.
-- Source: own.
use Rattle.std.specs.Prelude.{ℕ, ◌≡◌, List, [], ◌∷◌, ◌++◌, Option, Some, None, is_some, map, Vec}
use Rattle.std.specs.Option.{option_and_then}
use Rattle.std.specs.Map.{lookup}
use Rattle.std.specs.Str.{bytes_eq}
use Rattle.std.specs.List.Sorted.{IsPermutation}
use Rattle.std.specs.declared.alloc.Global.{Global}
use Rattle.aa_files.specs.Texts.{texts}
use Rattle.aa_files.specs.Files.{Files, Taken, Lying}
use Rattle.aa_files.specs.Files.Lying.{File, Folder}
use Rattle.aapolicy_tests.specs.declared.tree.MemoryTree.{MemoryTree}
use Rattle.aapolicy_tests.specs.declared.tree.Planted.{Planted}
use Rattle.aapolicy_tests.specs.declared.tree.Planted.TheVariants as planted

-- a file or a folder, unless it can't be read
abbrev pub lying_of : Planted → Option Lying
lying_of (planted.File bytes) = Some (File bytes.items)
lying_of (planted.Folder names) = Some (Folder (texts names.list.items))
lying_of (planted.Refused why) = None

-- a path, and what was planted there
abbrev pub Row : Type 0
Row = Vec ℕ Global × Planted

-- the first that is planted at a path
abbrev pub planted_at : List Row → List ℕ → Option Planted
planted_at planted path = lookup (λ k. bytes_eq k.items path) planted

-- what can be read at each path
abbrev pub files_of : MemoryTree → Files
files_of t path = option_and_then lying_of (planted_at t.planted.items path)

-- whether anything is planted there
abbrev pub taken_of : MemoryTree → Taken
taken_of t path = is_some (planted_at t.planted.items path)

-- the paths in the order in which something is planted there, each with what can be read
abbrev pub row_of : Row → List ℕ × Option Lying
row_of row = (row.0.items, lying_of row.1)

-- all that was planted
abbrev pub rows_of : MemoryTree → List (List ℕ × Option Lying)
rows_of t = map row_of t.planted.items

-- one row more, behind the others
pub record Plants (row : List ℕ × Option Lying) (before after : MemoryTree) : Type 0 where
  pub rows : rows_of after ≡ rows_of before ++ row ∷ []
  pub input : after.input ≡ before.input

-- a folder with these names, in some order
pub record PlantsFolder (path : List ℕ) (names : List (List ℕ)) (before after : MemoryTree) : Type 0 where
  pub list : List (List ℕ)
  pub same : IsPermutation names list
  pub planted : Plants (path, Some (Folder list)) before after
