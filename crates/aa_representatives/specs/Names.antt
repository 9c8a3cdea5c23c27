-- Names that are told apart at a label, and patterns that do.
-- Source: own.
use Rattle.std.specs.Prelude.{◌≡◌, ◌+◌, ℕ, List, [], ◌∷◌, ◌++◌, map, length, codes}
use Rattle.std.specs.List.{slice_get}
use Rattle.std.specs.Option.{option_map_or}
use Rattle.aa_pattern.specs.declared.item.Item.{Item, Byte}
use Rattle.aa_pattern.specs.declared.pattern.Pattern.{Pattern}
use Rattle.aa_auto.specs.Tables.{HasPlaces}
use Rattle.aa_model.specs.Lawful.{names_of}
use Rattle.aa_model.specs.declared.policy.Policy.{Policy}
use Rattle.aa_model.specs.declared.policy.Profile.{Profile}
use Rattle.aa_model.specs.declared.label.Label.{Label}
use Rattle.aa_compile.specs.Labels.{policy_number}
use Rattle.aa_representatives.specs.Alike.{changing}

-- the profiles of the policy that decides at a label
abbrev pub profiles_at : List Policy → Label → List Profile
profiles_at policies label = option_map_or (λ (p : Policy). p.profiles) (slice_get policies (policy_number label)) []

-- the empty name, unconfined, and the full name of each profile
abbrev pub told_apart : List Profile → List (List ℕ)
told_apart profiles = [] ∷ codes "unconfined" ∷ names_of profiles

-- the items that match the text alone
abbrev pub literal_of : List ℕ → List Item
literal_of text = map Byte text

-- the items of a pattern
abbrev pub items_of : Pattern → List Item
items_of p = p.items.items

-- the patterns match these texts, each its own
abbrev pub ArePatternsOf : List (List ℕ) → List Pattern → Type 0
ArePatternsOf texts ps = map items_of ps ≡ map literal_of texts

-- the patterns by which the names of changes are answered at a label, and behind them one for each name that is told apart
pub record AreNamePatterns (policies : List Policy) (label : Label) (ps : List Pattern) : Type 0 where
  pub names : List Pattern
  pub are : ps ≡ changing policies label ++ names
  pub literal : ArePatternsOf (told_apart (profiles_at policies label)) names

-- of so many patterns
abbrev pub many_name_patterns : List Policy → Label → ℕ
many_name_patterns policies label = length (changing policies label) + length (told_apart (profiles_at policies label))

-- n texts of which these patterns tell each two apart
abbrev pub HaveNamePlaces : List Policy → Label → ℕ → Type 0
HaveNamePlaces policies label n = (ps : List Pattern) × AreNamePatterns policies label ps × HasPlaces ps n
