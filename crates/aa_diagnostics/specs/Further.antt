-- What else helps: the lines behind a fault.
-- Source: apparmor.d(5), "Variables"; own.
use Rattle.std.specs.Prelude.{ℕ, ◌+◌, ◌==◌, ◌≡◌, ◌⊎◌, List, [], ◌∷◌, ◌++◌, map, flat_map, codes, Option, option_to_list, if◌then◌else◌}
use Rattle.aa_base.specs.declared.fault.Spot.{Spot}
use Rattle.aa_base.specs.declared.fault.PolicyKind.{PolicyKind}
use Rattle.aa_base.specs.declared.fault.PolicyKind.TheVariants.{MissingInclude, VariableTwice, DuplicateProfile, ConflictingExec}
use Rattle.aa_model.specs.declared.policy.Policy.{Policy}
use Rattle.aa_words.specs.Splits.{WordData, Splits}
use Rattle.aa_words.specs.Found.{IncludeData, HasIncludes}
use Rattle.aa_glob.specs.Variables.{Variable}
use Rattle.aa_policy.specs.Bodies.{ProfileData, IsPolicy}
use Rattle.aa_policy.specs.Spelling.{Spells}
use Rattle.aa_policies.specs.Policies.{CanFollow}
use Rattle.aa_explain.specs.Places.{PlacesData, ArePlaces}
use Rattle.aa_text.specs.Places.{place_in}
use Rattle.aa_text.specs.Texts.{line_and_column}
use Rattle.aa_files.specs.declared.unit.Unit as unit
use Rattle.aa_files.specs.Numbers.{path_in, text_in}
use Rattle.aa_load.specs.UnitPolicy.{limit_of, texts_of}
use Rattle.aa_files.specs.Walks.{asked_by}
use Rattle.aa_diagnostics.specs.Named.{named_of}
use Rattle.aa_diagnostics.specs.Earlier.{set_again, named_again, IsSetFirst, IsNamedFirst}
use Rattle.aa_diagnostics.specs.Conflicts.{NoneHas, ShowsOne}

-- what stands before it, a file's path, and a place in it
abbrev pub spot_line : unit.Unit → List ℕ → Spot → List ℕ
spot_line u what at = what ++ (path_in u at.file ++ line_and_column ((place_in (text_in u at.file) at.byte).line) ((place_in (text_in u at.file) at.byte).column))

-- the line that tells a path which was tried
abbrev pub tried : List ℕ → List ℕ
tried path = codes "tried " ++ path

-- each path at which the source of an include was looked for, if it stands at that byte
abbrev pub tried_at : List (List ℕ) → ℕ → IncludeData → List (List ℕ)
tried_at folders byte i = if i.byte == byte then map tried ((asked_by folders i).1) else []

-- the paths at which the include at a byte of a text was looked for, in order
pub record AreTried (folders : List (List ℕ)) (text : List ℕ) (byte : ℕ) (lines : List (List ℕ)) : Type 0 where
  pub includes : List IncludeData
  pub of_text : HasIncludes text includes
  pub each : lines ≡ flat_map (tried_at folders byte) includes

-- a line for that place, if there is one
abbrev pub spot_lines : unit.Unit → List ℕ → Option Spot → List (List ℕ)
spot_lines u what at = map (spot_line u what) (option_to_list at)

-- among the words of the unit, where the variable is set first that is set again at that place, if there is one
pub record ShowsFirstSet (u : unit.Unit) (at : Spot) (lines : List (List ℕ)) : Type 0 where
  pub words : List WordData
  pub split : Splits (texts_of u) u.text.items words
  pub are : lines ≡ spot_lines u (codes "set at ") (set_again at [] words)

-- where the first of its profiles stands that has the full name of one behind it, whose name stands at that place, if there is one
pub record ShowsFirstNamed (u : unit.Unit) (at : Spot) (lines : List (List ℕ)) : Type 0 where
  pub words : List WordData
  pub split : Splits (texts_of u) u.text.items words
  pub vars : List Variable
  pub tree : List ProfileData
  pub written : IsPolicy words vars tree
  pub are : lines ≡ spot_lines u (codes "earlier at ") (named_again at [] (map named_of tree))

-- the sources of the unit can be handed in, and its text has these words
pub record HasWords (u : unit.Unit) (ws : List WordData) : Type 0 where
  pub fit : CanFollow [] (texts_of u)
  pub split : Splits (texts_of u) u.text.items ws

-- two rules that conflict are shown where they stand, of a profile of the unit's policy whose name stands at that place
pub record ShowsConflictAt (u : unit.Unit) (at : Spot) (lines : List (List ℕ)) : Type 0 where
  pub words : List WordData
  pub split : Splits (texts_of u) u.text.items words
  pub policy : Policy
  pub spells : Spells words policy
  pub places : List PlacesData
  pub placed : ArePlaces words places
  pub one : ShowsOne u policy.profiles places at lines

-- nothing is shown: of the unit's policy no profile whose name stands there has a conflict within so many states
pub record ShowsNoConflict (limit : ℕ) (u : unit.Unit) (at : Spot) (lines : List (List ℕ)) : Type 0 where
  pub words : List WordData
  pub split : Splits (texts_of u) u.text.items words
  pub policy : Policy
  pub spells : Spells words policy
  pub none : NoneHas policy.profiles at (limit + 1)
  pub are : lines ≡ []

-- the unit's conflict is shown, if it has one there
abbrev pub ShowsIfConflict : ℕ → unit.Unit → Spot → List (List ℕ) → Type 0
ShowsIfConflict limit u at lines = ShowsConflictAt u at lines ⊎ ShowsNoConflict limit u at lines

-- no words of the unit spell a policy
abbrev pub SpellsNothing : unit.Unit → Type 0
SpellsNothing u = (ws : List WordData) (policy : Policy) → HasWords u ws → Spells ws policy → ⊥

-- the lines behind a fault of a unit, whose includes are searched in these folders, and of which an automaton may have so many states
abbrev pub IsFurther : unit.Unit → List (List ℕ) → ℕ → Spot → List (List ℕ) → PolicyKind → Type 0
IsFurther u folders states at lines MissingInclude = AreTried folders (text_in u at.file) at.byte lines
IsFurther u folders states at lines VariableTwice = (lines ≡ []) ⊎ ShowsFirstSet u at lines
IsFurther u folders states at lines DuplicateProfile = (lines ≡ []) ⊎ ShowsFirstNamed u at lines
IsFurther u folders states at lines ConflictingExec = ShowsIfConflict (limit_of states) u at lines ⊎ ((lines ≡ []) × SpellsNothing u)
IsFurther u folders states at lines _ = lines ≡ []

-- a variable is set twice, the second time at that place, and the one line says where it is set first
pub record ShowsSetTwice (u : unit.Unit) (at : Spot) (lines : List (List ℕ)) : Type 0 where
  pub words : List WordData
  pub has : HasWords u words
  pub first : Spot
  pub set : IsSetFirst words at first
  pub are : lines ≡ spot_line u (codes "set at ") first ∷ []

-- two profiles have one full name, the later one stands at that place, and the one line says where the first stands that has it
pub record ShowsNamedTwice (u : unit.Unit) (at : Spot) (lines : List (List ℕ)) : Type 0 where
  pub words : List WordData
  pub has : HasWords u words
  pub first : Spot
  pub named : IsNamedFirst words at first
  pub are : lines ≡ spot_line u (codes "earlier at ") first ∷ []

-- the earlier one is shown, of two variables or profiles of one name, and a conflict
abbrev pub ShowsEarlier : unit.Unit → Spot → List (List ℕ) → PolicyKind → Type 0
ShowsEarlier u at lines VariableTwice = ShowsSetTwice u at lines
ShowsEarlier u at lines DuplicateProfile = ShowsNamedTwice u at lines
ShowsEarlier u at lines ConflictingExec = ShowsConflictAt u at lines
ShowsEarlier u at lines _ = Unit {0}
