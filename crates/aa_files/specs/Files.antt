-- What lies at the paths of a tree of files.
-- Source: apparmor.d(5), "#include mechanism"; own.
use Rattle.std.specs.Prelude.{ℕ, List, Bool, true, false, Option, Some, None, is_some, find, codes}
use Rattle.std.specs.Str.{bytes_eq}
use Rattle.aa_files.specs.Folders.{folder_lines}

-- a file's bytes, or the names in a folder
pub data Lying : Type 0 where
  File : List ℕ → Lying
  Folder : List (List ℕ) → Lying

-- what lies at each path, if something does
abbrev pub Files : Type 0
Files = List ℕ → Option Lying

-- whether something has that path, be it a link that leads nowhere
abbrev pub Taken : Type 0
Taken = List ℕ → Bool

-- the names in a folder, if one lies there
abbrev pub listed : Option Lying → Option (List (List ℕ))
listed None = None
listed (Some (File bytes)) = None
listed (Some (Folder names)) = Some names

-- the path of the command line that stands for standard input
abbrev pub is_input : List ℕ → Bool
is_input path = bytes_eq path (codes "-")

-- the text that is read there, and whether it stands for a folder
abbrev pub read_at : List ℕ → Lying → List ℕ × Bool
read_at path (File bytes) = (bytes, false)
read_at path (Folder names) = (folder_lines path names, true)

-- of some paths, the first at which something lies
abbrev pub first_taken : Files → List (List ℕ) → Option (List ℕ)
first_taken files paths = find (λ path. is_some (files path)) paths
