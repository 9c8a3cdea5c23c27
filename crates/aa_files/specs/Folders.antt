-- A folder that is included, as a text.
-- Source: apparmor.d(5), "#include mechanism".
use Rattle.std.specs.Prelude.{ℕ, ◌≡◌, List, [], ◌∷◌, ◌++◌, flat_map, filter, codes, Bool, true, not}
use Rattle.std.specs.List.{list_any}
use Rattle.aa_words.specs.Includes.{ends_include_name, included_name}
use Rattle.aa_files.specs.FolderNames.{passes_over}
use Rattle.aa_files.specs.Searches.{path_in}

-- a path that can stand in quotes: it has no quote, no line end and no zero byte
abbrev pub can_stand : List ℕ → Bool
can_stand path = not (list_any (λ b. ends_include_name 34 b) path)

-- the line of a folder's text that includes a file
unfoldable pub include_line : List ℕ → List ℕ
include_line path = codes "include \"" ++ (path ++ codes "\"\n")

-- the names of a folder's files that are read
abbrev pub files_among : List (List ℕ) → List (List ℕ)
files_among names = filter (λ name. not (passes_over name)) names

-- an include for each of the folder's files in turn, but for those that are passed over
abbrev pub folder_lines : List ℕ → List (List ℕ) → List ℕ
folder_lines folder names = flat_map (λ name. include_line (path_in folder name)) (files_among names)

-- Such a line includes the path that it is made of.
abbrev pub LinesIncludeTheirPaths : Type 0
LinesIncludeTheirPaths = (path : List ℕ) → can_stand path ≡ true → included_name (include_line path) ≡ path
