-- What is written means these profiles, or why it means none.
-- Source: own.
use Rattle.std.specs.Prelude.{◌≡◌, List, true}
use Rattle.std.specs.List.{IsDistinct}
use Rattle.std.specs.Str.{bytes_eq}
use Rattle.aa_base.specs.declared.fault.PolicyFault.{PolicyFault}
use Rattle.aa_base.specs.declared.fault.PolicyKind.TheVariants.{DuplicateProfile, TooLarge}
use Rattle.aa_base.specs.Kinds.{at_start}
use Rattle.aa_words.specs.Splits.{WordData}
use Rattle.aa_glob.specs.Variables.{Variable}
use Rattle.aa_model.specs.declared.policy.Profile.{Profile}
use Rattle.aa_model.specs.Lawful.{IsWithinLimits, names_of}
use Rattle.aa_policy.specs.Bodies.{ProfileData, IsPolicy}
use Rattle.aa_policy.specs.Expansion.{IsFirstRefused}
use Rattle.aa_policy.specs.Faults.{is_path_fault}
use Rattle.aa_policy.specs.Spelling.{MeansProfiles, IsRepeated, paths_of}

-- some words are written so
abbrev pub IsWritten : List Variable → List ProfileData → Type 0
IsWritten vars tree = (ws : List WordData) × IsPolicy ws vars tree

-- they are the profiles that are written, with distinct names and within the limits
pub record AreMeant (vars : List Variable) (tree : List ProfileData) (profiles : List Profile) : Type 0 where
  pub means : MeansProfiles vars tree profiles
  pub distinct : IsDistinct bytes_eq (names_of profiles)
  pub limits : IsWithinLimits profiles

-- why there are none: a path or a name of a rule is refused, or else a profile's name is there twice, or else a limit is passed
pub data IsMeaningless (vars : List Variable) (tree : List ProfileData) (fault : PolicyFault) : Type 0 where
  OfPath : is_path_fault fault.kind ≡ true → IsFirstRefused vars (paths_of tree) fault → IsMeaningless vars tree fault
  OfName : (profiles : List Profile) → MeansProfiles vars tree profiles → fault.kind ≡ DuplicateProfile → IsRepeated profiles fault.at → IsMeaningless vars tree fault
  OfLimit : (profiles : List Profile) → MeansProfiles vars tree profiles → IsDistinct bytes_eq (names_of profiles) → (IsWithinLimits profiles → ⊥) → fault ≡ at_start TooLarge → IsMeaningless vars tree fault
