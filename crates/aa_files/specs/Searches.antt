-- Where an include is looked for.
-- Source: apparmor.d(5), "#include mechanism"; own.
use Rattle.std.specs.Prelude.{ℕ, List, [], ◌∷◌, ◌++◌, map, codes, Bool, if◌then◌else◌}
use Rattle.aa_files.specs.FolderNames.{ends_in}

-- a name in a folder, with one slash between them
abbrev pub path_in : List ℕ → List ℕ → List ℕ
path_in folder name = if ends_in (codes "/") folder then folder ++ name else folder ++ codes "/" ++ name

-- a name in < > is looked for in each of the folders, one in quotes stands as it is
abbrev pub searched : Bool → List ℕ → List (List ℕ) → List (List ℕ)
searched angle name folders = if angle then map (λ folder. path_in folder name) folders else name ∷ []

-- the folders of the command line in their order, and behind them the base folder
abbrev pub named_before : List (List ℕ) → List ℕ → List (List ℕ)
named_before named base = named ++ base ∷ []
