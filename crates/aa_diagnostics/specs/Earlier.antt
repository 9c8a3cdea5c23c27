-- Which of two variables or profiles of one name is the earlier.
-- Source: apparmor.d(5), "Variables"; own.
use Rattle.std.specs.Prelude.{ℕ, ◌≡◌, ◌==◌, ◌&&◌, List, [], ◌∷◌, ◌++◌, map, find, Bool, true, false, not, Option, Some, None, option_map, if◌then◌else◌}
use Rattle.std.specs.Option.{option_or}
use Rattle.std.specs.Str.{bytes_eq}
use Rattle.aa_base.specs.declared.fault.Spot.{Spot}
use Rattle.aa_words.specs.declared.word.WordKind.{WordKind}
use Rattle.aa_words.specs.declared.word.WordKind.TheVariants.{Equals}
use Rattle.aa_words.specs.Splits.{WordData}
use Rattle.aa_rules.specs.Grammar.{spot_of}
use Rattle.aa_policy.specs.Preamble.{PreambleData, Assigns, Abi, IsTwice}
use Rattle.aa_model.specs.declared.policy.Profile.{Profile}
use Rattle.aa_policy.specs.Spelling.{IsDuplicate}
use Rattle.aa_diagnostics.specs.Named.{NamedAt}

-- both are one place
abbrev pub same_spot : Spot → Spot → Bool
same_spot a b = a.file == b.file && a.byte == b.byte

-- ---- variables, as they are written

-- where the first of some assignments stands that sets the variable
abbrev pub first_set : List ℕ → List PreambleData → Option Spot
first_set name [] = None
first_set name (Abi ∷ items) = first_set name items
first_set name (Assigns a ∷ items) = if bytes_eq name a.name && not a.adds then Some a.at else first_set name items

-- a variable is set twice, the second time at one place, and first at another
pub record IsSetFirst (ws : List WordData) (at first : Spot) : Type 0 where
  pub twice : IsTwice ws at
  pub is : first_set twice.misnames.name twice.items ≡ Some first

-- ---- profiles, as they are written

-- where the first profile stands that has the name
abbrev pub first_named : List ℕ → List NamedAt → Option Spot
first_named name profiles = option_map (λ (p : NamedAt). p.at) (find (λ (p : NamedAt). bytes_eq p.name name) profiles)

-- a profile's name and where it stands
abbrev pub named_profile : Profile → NamedAt
named_profile p = record { at = p.at; name = p.name }

-- two profiles have one name, the second at one place, and the first that has it at another
pub record IsNamedFirst (ws : List WordData) (at first : Spot) : Type 0 where
  pub twice : IsDuplicate ws at
  pub is : first_named twice.repeated.profile.name (map named_profile twice.repeated.before) ≡ Some first

-- ---- the same among words, and among names

-- the word begins at the place
abbrev pub word_stands_at : Spot → WordData → Bool
word_stands_at at w = same_spot (spot_of w) at

-- the sign sets a variable
abbrev pub sets : WordKind → Bool
sets Equals = true
sets _ = false

-- the sign stands first with which a variable is set
abbrev pub sets_next : List WordData → Bool
sets_next [] = false
sets_next (w ∷ ws) = sets w.kind

-- where a variable of that text is set first
abbrev pub set_first : List ℕ → List WordData → Option Spot
set_first text [] = None
set_first text (w ∷ ws) = if bytes_eq w.text text && sets_next ws then Some (spot_of w) else set_first text ws

-- where words before set first what the word that stands first sets, if it stands at that place
abbrev pub set_before : Spot → List WordData → WordData → List WordData → Option Spot
set_before at before w ws = if word_stands_at at w && sets_next ws then set_first w.text before else None

-- the same of the first word of which there is such a place
abbrev pub set_again : Spot → List WordData → List WordData → Option Spot
set_again at before [] = None
set_again at before (w ∷ ws) = option_or (set_before at before w ws) (set_again at (before ++ w ∷ []) ws)

-- where profiles before have first the name of one that stands at that place
abbrev pub named_before : Spot → List NamedAt → NamedAt → Option Spot
named_before at before p = if same_spot p.at at then first_named p.name before else None

-- the same of the first profile of which there is such a place
abbrev pub named_again : Spot → List NamedAt → List NamedAt → Option Spot
named_again at before [] = None
named_again at before (p ∷ ps) = option_or (named_before at before p) (named_again at (before ++ p ∷ []) ps)
