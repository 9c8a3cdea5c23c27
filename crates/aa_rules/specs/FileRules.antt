-- The file rules of the grammar: file = ["owner"] ( "file" | ["file"] path mode [-> name] | ["file"] mode path [-> name] )
-- Source: apparmor.d(5), "File rules", "Access Modes".
use Rattle.std.specs.Prelude.{ℕ, ◌≡◌, ◌⊎◌, List, codes, Option, Some, None, option_map, Bool, true, false}
use Rattle.std.specs.Str.{bytes_eq}
use Rattle.aa_words.specs.declared.word.WordKind.TheVariants.{Arrow, Comma, Name}
use Rattle.aa_words.specs.Splits.{WordData}
use Rattle.aa_model.specs.declared.rule.ExecKind.{ExecKind}
use Rattle.aa_model.specs.declared.rule.ExecKind.TheVariants as kind
use Rattle.aa_rules.specs.declared.modes.ExecMode.{ExecMode}
use Rattle.aa_rules.specs.declared.modes.Mode.{Mode}
use Rattle.aa_rules.specs.declared.tree.Qualifiers.{Qualifiers}
use Rattle.aa_rules.specs.Modes.{mode_of}
use Rattle.aa_rules.specs.Names.{is_target_name, is_left_out}
use Rattle.aa_rules.specs.Phrases.{Starts, Lacks, StartsAs, is_path_kind, is_name_kind, Optional, spot_of}
use Rattle.aa_rules.specs.Reading.{ExecData, EntryData, FileData}

-- the words begin with a path
pub record IsPath (ws : List WordData) (entry : EntryData) (rest : List WordData) : Type 0 where
  pub word : WordData
  pub stands : StartsAs is_path_kind ws word rest
  pub at_is : entry.at ≡ spot_of word
  pub path_is : entry.path ≡ word.text

-- the words begin with a mode
pub record IsMode (deny : Bool) (ws : List WordData) (mode : Mode) (rest : List WordData) : Type 0 where
  pub word : WordData
  pub stands : Starts Name ws word rest
  pub says : mode_of deny word.text ≡ Some mode

-- path mode
abbrev pub IsPathFirst : Bool → List WordData → EntryData → List WordData → Type 0
IsPathFirst deny ws entry rest = (after : List WordData) × IsPath ws entry after × IsMode deny after entry.mode rest

-- mode path
abbrev pub IsModeFirst : Bool → List WordData → EntryData → List WordData → Type 0
IsModeFirst deny ws entry rest = (after : List WordData) × IsMode deny ws entry.mode after × IsPath after entry rest

-- path mode | mode path
abbrev pub IsPair : Bool → List WordData → EntryData → List WordData → Type 0
IsPair deny ws entry rest = IsPathFirst deny ws entry rest ⊎ IsModeFirst deny ws entry rest

-- the mode of `file` by itself
abbrev pub whole_mode : Bool → List ℕ
whole_mode true = codes "rwlkmx"
whole_mode false = codes "rwlkmix"

-- "file" by itself, which a comma follows: every path
pub record IsWhole (deny : Bool) (ws : List WordData) (entry : EntryData) (rest : List WordData) : Type 0 where
  pub word : WordData
  pub comma : WordData
  pub after : List WordData
  pub stands : Starts Name ws word rest
  pub is_it : bytes_eq word.text (codes "file") ≡ true
  pub comma_stands : Starts Comma rest comma after
  pub at_is : entry.at ≡ spot_of word
  pub path_is : entry.path ≡ codes "/{**,}"
  pub says : mode_of deny (whole_mode deny) ≡ Some entry.mode

-- the words begin with one that is left out where a rule begins
pub record IsLeftOut (ws : List WordData) : Type 0 where
  pub word : WordData
  pub rest : List WordData
  pub stands : Starts Name ws word rest
  pub left_out : is_left_out word.text ≡ true

-- ["file"] (path mode | mode path), where no word that is left out is read as a mode
pub record IsPathAndMode (deny : Bool) (ws : List WordData) (entry : EntryData) (rest : List WordData) : Type 0 where
  pub read : IsLeftOut ws → ⊥
  pub named : Bool
  pub bare : List WordData
  pub file_stands : Optional (codes "file") ws named bare
  pub pair : IsPair deny bare entry rest

-- "file" | ["file"] (path mode | mode path)
abbrev pub IsEntry : Bool → List WordData → EntryData → List WordData → Type 0
IsEntry deny ws entry rest = IsWhole deny ws entry rest ⊎ IsPathAndMode deny ws entry rest

-- whether the program goes on under a profile or a child profile of the policy
abbrev pub names_profile : ExecKind → Bool
names_profile kind.Profile = true
names_profile kind.Child = true
names_profile _ = false

-- a profile may be named behind a mode that goes on under one
abbrev pub takes_target : Option ExecMode → Bool
takes_target None = false
takes_target (Some e) = names_profile e.kind

-- -> name
pub record IsArrow (exec : Option ExecMode) (ws : List WordData) (name : List ℕ) (rest : List WordData) : Type 0 where
  pub arrow : WordData
  pub word : WordData
  pub after : List WordData
  pub takes : takes_target exec ≡ true
  pub arrow_stands : Starts Arrow ws arrow after
  pub stands : StartsAs is_name_kind after word rest
  pub is_name : is_target_name word.text ≡ true
  pub name_is : name ≡ word.text

-- [-> name]
abbrev pub IsTarget : Option ExecMode → List WordData → Option (List ℕ) → List WordData → Type 0
IsTarget exec ws None rest = (rest ≡ ws) × Lacks Arrow ws
IsTarget exec ws (Some name) rest = IsArrow exec ws name rest

-- how the program may be executed, with the profile that is named
abbrev pub exec_with : Option (List ℕ) → Option ExecMode → Option ExecData
exec_with target exec = option_map (λ e. record { mode = e; target = target }) exec

-- a file rule behind its qualifiers
pub record IsFile (qualifiers : Qualifiers) (ws : List WordData) (file : FileData) (rest : List WordData) : Type 0 where
  pub entry : EntryData
  pub target : Option (List ℕ)
  pub bare : List WordData
  pub after : List WordData
  pub owner_stands : Optional (codes "owner") ws file.owner bare
  pub entry_stands : IsEntry qualifiers.deny bare entry after
  pub target_stands : IsTarget entry.mode.exec after target rest
  pub qualifiers_are : file.qualifiers ≡ qualifiers
  pub at_is : file.at ≡ entry.at
  pub path_is : file.path ≡ entry.path
  pub perms_are : file.perms ≡ entry.mode.perms
  pub exec_is : file.exec ≡ exec_with target entry.mode.exec
