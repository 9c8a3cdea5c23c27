-- The lines that name the two rules of a conflict.
-- Source: own.
use Rattle.std.specs.Prelude.{◌≡◌, ◌⊎◌, ℕ, ◌<◌, List, [], ◌∷◌, ◌++◌, codes, Option, Some, None, MatchOption, slice_get}
use Rattle.aa_base.specs.declared.fault.Spot.{Spot}
use Rattle.aa_model.specs.declared.policy.Profile.{Profile}
use Rattle.aa_auto.specs.Tables.{HasPlaces}
use Rattle.aa_compile.specs.FileRules.{Conflicts}
use Rattle.aa_explain.specs.Clashes.{Conflict, executing}
use Rattle.aa_explain.specs.Places.{PlacesData}
use Rattle.aa_base.specs.Values.{value}
use Rattle.aa_text.specs.Places.{place_in}
use Rattle.aa_text.specs.Texts.{line_and_column}
use Rattle.aa_files.specs.declared.unit.Unit as unit
use Rattle.aa_files.specs.Numbers.{path_in, text_in}
use Rattle.aa_rule_text.specs.RuleTexts.{rule_text}

-- a file's path, a place in it, and the rule that begins there
abbrev pub IsRuleLine : unit.Unit → Spot → List ℕ → Type 0
IsRuleLine u at line =
    line ≡ path_in u at.file ++ (line_and_column ((place_in (text_in u at.file) at.byte).line) ((place_in (text_in u at.file) at.byte).column) ++ (codes ": " ++ rule_text (text_in u at.file) at.byte))

-- a line for the rule with that number, if it is known where it stands
abbrev pub AreRuleLines : unit.Unit → List Spot → ℕ → List (List ℕ) → Type 0
AreRuleLines u places number lines = MatchOption (slice_get places number) (lines ≡ []) (λ at. (line : List ℕ) × (lines ≡ line ∷ []) × IsRuleLine u at line)

-- the line that tells a text which both rules match
abbrev pub both_match : List ℕ → List ℕ
both_match text = codes "both match " ++ value text

-- the first rule, the second, and the text that both match
pub record ShowsRules (u : unit.Unit) (places : List Spot) (first second : ℕ) (text : List ℕ) (lines : List (List ℕ)) : Type 0 where
  pub ones : List (List ℕ)
  pub others : List (List ℕ)
  pub one : AreRuleLines u places first ones
  pub other : AreRuleLines u places second others
  pub are : lines ≡ ones ++ (others ++ both_match text ∷ [])

-- two rules of the profile that conflict at a text are shown, the earlier one first
pub record ShowsConflict (u : unit.Unit) (profile : Profile) (places : List Spot) (lines : List (List ℕ)) : Type 0 where
  pub first : ℕ
  pub second : ℕ
  pub text : List ℕ
  pub ordered : first < second
  pub conflict : Conflict profile.files first second text
  pub shows : ShowsRules u places first second text lines

-- where the file rules of the profile with that number stand
abbrev pub files_of : Option PlacesData → List Spot
files_of None = []
files_of (Some p) = p.files

-- the places of the rules on files of a profile
abbrev pub files_at : List PlacesData → ℕ → List Spot
files_at places number = files_of (slice_get places number)

-- no text has two rules of the profile that conflict, or the automaton of those that say how a program is executed needs more rows than the limit
abbrev pub HasNone : Profile → ℕ → Type 0
HasNone profile limit = (Conflicts profile.files → ⊥) ⊎ HasPlaces (executing profile.files) limit

-- so of each profile whose name stands there
abbrev pub NoneHas : List Profile → Spot → ℕ → Type 0
NoneHas profiles at limit = (n : ℕ) (p : Profile) → slice_get profiles n ≡ Some p → p.at ≡ at → HasNone p limit

-- a conflict is shown of a profile whose name stands there
pub record ShowsOne (u : unit.Unit) (profiles : List Profile) (places : List PlacesData) (at : Spot) (lines : List (List ℕ)) : Type 0 where
  pub number : ℕ
  pub profile : Profile
  pub is : slice_get profiles number ≡ Some profile
  pub stands : profile.at ≡ at
  pub shows : ShowsConflict u profile (files_at places number) lines
