-- What the commands on files are told: where files lie, where includes are searched, and what that makes of the arguments.
-- Source: own.
use Rattle.std.specs.Prelude.{ℕ, ◌≡◌, ◌≤◌, List, [], ◌∷◌, ◌++◌, length, codes, Option, IfSome}
use Rattle.aa_files.specs.Texts.{slices}
use Rattle.aa_files.specs.declared.unit.Unit as unit
use Rattle.aa_files.specs.Files.{Files, Taken}
use Rattle.aa_files.specs.FilesData.{IsMainText}
use Rattle.aa_files.specs.Roots.{root_paths, root_lines}
use Rattle.aa_files.specs.WalkData.{IsUnit}
use Rattle.aa_command.specs.declared.settings.Settings.{Settings}

-- what is known of the files that lie there, of which names are taken and of standard input; the base folder, where includes are
-- searched, and how many states an automaton may have
pub record Setting : Type 0 where
  pub files : Option Files
  pub taken : Option Taken
  pub input : Option (List ℕ)
  pub base : List ℕ
  pub folders : List (List ℕ)
  pub states : ℕ

-- the setting that these options make
abbrev pub setting_of : Option Files → Option Taken → Option (List ℕ) → Settings → Setting
setting_of files taken input w = record { files = files; taken = taken; input = input; base = w.base.now; folders = slices w.folders.now; states = w.states }

-- what is read at a path, with all that it includes
pub record IsLoaded (s : Setting) (path : List ℕ) (u : unit.Unit) : Type 0 where
  pub main : IsMainText s.files s.input path u.text.items
  pub unit_is : IsUnit s.files s.folders path u.text.items u

-- what is warned of where there is no file
abbrev pub none_there : List (List ℕ) → List (List ℕ)
none_there [] = codes "no file with profiles is there" ∷ []
none_there (path ∷ paths) = []

-- the files that the arguments stand for, and what people are told of others, or that there is none; exactly these, where it is known what lies there
pub record AreRoots (s : Setting) (arguments paths warnings : List (List ℕ)) : Type 0 where
  pub few : length paths ≤ 4096
  pub paths_are : IfSome s.files (λ f. IfSome s.taken (λ t. paths ≡ root_paths f t s.base arguments))
  pub warnings_are : IfSome s.files (λ f. IfSome s.taken (λ t. warnings ≡ root_lines f t s.base arguments ++ none_there paths))
