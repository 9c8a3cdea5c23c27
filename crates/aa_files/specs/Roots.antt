-- The files that a command line stands for.
-- Source: own.
use Rattle.std.specs.Prelude.{ℕ, List, [], ◌∷◌, ◌++◌, flat_map, codes, Bool, not, ◌&&◌, Option, Some, None, if◌then◌else◌}
use Rattle.aa_files.specs.FolderNames.{is_leftover, passes_over}
use Rattle.aa_files.specs.Searches.{path_in}
use Rattle.aa_files.specs.Files.{Files, Taken, listed, is_input}

-- whether something of that name lies in a folder of the base folder
abbrev pub is_named_in : Taken → List ℕ → List ℕ → List ℕ → Bool
is_named_in taken base folder name = taken (path_in (path_in base folder) name)

-- a folder's file is read unless it is passed over by its name or disabled
abbrev pub is_wanted : Taken → List ℕ → List ℕ → Bool
is_wanted taken base name = not (passes_over name) && not (is_named_in taken base (codes "disable") name)

-- it stands for its path in the folder
abbrev pub wanted_path : Taken → List ℕ → List ℕ → List ℕ → List (List ℕ)
wanted_path taken base folder name = if is_wanted taken base name then path_in folder name ∷ [] else []

-- what people are told of it: that it is a leftover, or, of one that is read, that BASE/force-complain isn't applied
abbrev pub leftover_line : List ℕ → List ℕ → List (List ℕ)
leftover_line path name = if is_leftover name then (path ++ codes ": passed over, by its name") ∷ [] else []

-- the warning for a file that force-complain names
abbrev pub complain_line : Taken → List ℕ → List ℕ → List ℕ → List (List ℕ)
complain_line taken base path name =
    if is_named_in taken base (codes "force-complain") name then (path ++ codes ": force-complain isn't applied, the text decides") ∷ [] else []

-- the warnings for a name of a folder
abbrev pub warning_lines : Taken → List ℕ → List ℕ → List ℕ → List (List ℕ)
warning_lines taken base folder name =
    leftover_line (path_in folder name) name ++ (if is_wanted taken base name then complain_line taken base (path_in folder name) name else [])

-- what an argument stands for: a folder for its files, in byte order of their names, and anything else for itself
abbrev pub folder_of : Files → List ℕ → Option (List (List ℕ))
folder_of files argument = if is_input argument then None else listed (files argument)

-- the files that an argument stands for
abbrev pub paths_among : Taken → List ℕ → List ℕ → Option (List (List ℕ)) → List (List ℕ)
paths_among taken base argument None = argument ∷ []
paths_among taken base argument (Some names) = flat_map (wanted_path taken base argument) names

-- the warnings for the names of an argument's folder
abbrev pub lines_among : Taken → List ℕ → List ℕ → Option (List (List ℕ)) → List (List ℕ)
lines_among taken base argument None = []
lines_among taken base argument (Some names) = flat_map (warning_lines taken base argument) names

-- the files that are read, in order
abbrev pub root_paths : Files → Taken → List ℕ → List (List ℕ) → List (List ℕ)
root_paths files taken base arguments = flat_map (λ argument. paths_among taken base argument (folder_of files argument)) arguments

-- what people are told of those that aren't
abbrev pub root_lines : Files → Taken → List ℕ → List (List ℕ) → List (List ℕ)
root_lines files taken base arguments = flat_map (λ argument. lines_among taken base argument (folder_of files argument)) arguments
