-- Which limit a whole passes.
-- Source: own.
use Rattle.std.specs.Prelude.{ℕ, ◌≡◌, nat_lt, List, length, map, codes, Bool, if◌then◌else◌}
use Rattle.std.specs.List.{list_any}
use Rattle.aa_words.specs.Splits.{WordData, Splits}
use Rattle.aa_glob.specs.Variables.{Variable}
use Rattle.aa_policy.specs.Bodies.{ProfileData, IsPolicy}
use Rattle.aa_files.specs.declared.unit.Unit as unit
use Rattle.aa_load.specs.UnitPolicy.{texts_of}
use Rattle.aa_diagnostics.specs.Named.{NamedAt, named_of}
use Rattle.aa_diagnostics.specs.Further.{HasWords}

-- the profiles that the words of a unit spell, by their full names
pub record AreProfilesOf (u : unit.Unit) (profiles : List NamedAt) : Type 0 where
  pub words : List WordData
  pub split : Splits (texts_of u) u.text.items words
  pub vars : List Variable
  pub tree : List ProfileData
  pub written : IsPolicy words vars tree
  pub are : profiles ≡ map named_of tree

-- a full name is too long
abbrev pub is_long : NamedAt → Bool
is_long p = nat_lt 1024 (length p.name)

-- the limit that profiles pass: on their number, on a name, or else on patterns
abbrev pub limit_of_profiles : List NamedAt → List ℕ
limit_of_profiles ps =
    if nat_lt 4096 (length ps) then codes "it has more than 4,096 profiles"
    else (if list_any is_long ps then codes "the full name of a profile has more than 1,024 bytes"
    else codes "a profile's rules have more than 65,535 patterns, or the attachments among which one is searched")

-- the limit that is passed before words are read as profiles
abbrev pub limit_of_texts : List ℕ
limit_of_texts = codes "with all that it includes it has more than 16,777,216 bytes, or 4,096 texts, each counted as often as it is read"

-- no words of the unit spell profiles
abbrev pub HasNoProfiles : unit.Unit → Type 0
HasNoProfiles u = (ws : List WordData) (vars : List Variable) (tree : List ProfileData) → HasWords u ws → IsPolicy ws vars tree → ⊥

-- what is said of a limit that the whole of a unit passes: that of its profiles, or where it has none, of its texts
pub data IsLimitOf (u : unit.Unit) (said : List ℕ) : Type 0 where
  OfTexts : HasNoProfiles u → said ≡ limit_of_texts → IsLimitOf u said
  OfProfiles : (ps : List NamedAt) → AreProfilesOf u ps → said ≡ limit_of_profiles ps → IsLimitOf u said
