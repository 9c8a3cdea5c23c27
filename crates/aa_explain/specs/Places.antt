-- Where the profiles that words spell stand, and where their rules do: the grammar once more, with the place at which each rule begins.
-- Source: apparmor.d(5), "Profiles"; own.
use Rattle.std.specs.Prelude.{ℕ, ◌≡◌, List, [], ◌∷◌, ◌++◌, map, flat_map, Option, Some, None, IsSome, true, false}
use Rattle.aa_base.specs.declared.fault.Spot.{Spot}
use Rattle.aa_words.specs.Splits.{WordData}
use Rattle.aa_rules.specs.Grammar.{Production, Many, IsRule, Closes, IsEnd}
use Rattle.aa_rules.specs.Reading.{RuleData, OnFile, OnCap, OnNet, OnChange, Listed}
use Rattle.aa_policy.specs.Heads.{HeadData, IsHead}
use Rattle.aa_policy.specs.Preamble.{PreambleData, IsAbi, IsPreamble, variables_of}
use Rattle.aa_policy.specs.Bodies.{if_any}
use Rattle.aa_explain.specs.Heads.{first_spot, IsPlacedHead}
use Rattle.aa_explain.specs.declared.places.Extent.{Extent}
use Rattle.aa_explain.specs.declared.places.ProfilePlaces.{ProfilePlaces}

-- ---- what is written, with places

-- a rule as written, where its first word stands, and the byte behind its last
pub record PlacedRule : Type 0 where
  pub at : Spot
  pub end : ℕ
  pub rule : RuleData

-- a profile as written: its head, where that stands up to its brace, its flags without effect, and its own rules in order
pub record PlacedProfile : Type 0 where
  pub head : HeadData
  pub place : Extent
  pub flags : List Extent
  pub rules : List PlacedRule

-- a top-level profile, and its children in order
pub record PlacedFamily : Type 0 where
  pub own : PlacedProfile
  pub children : List PlacedProfile

-- the last word before the rest ends at that byte
pub record EndsAt (ws : List WordData) (end : ℕ) (rest : List WordData) : Type 0 where
  pub front : List WordData
  pub last : WordData
  pub words : ws ≡ front ++ last ∷ rest
  pub ends : end ≡ last.span.end

-- statement = rule | abi: its rule from where it begins to where it ends, if it has one
abbrev pub IsPlacedStatement : Production (Option PlacedRule)
IsPlacedStatement ws (Some r) rest = (first_spot ws ≡ Some r.at) × EndsAt ws r.end rest × IsRule ws r.rule rest
IsPlacedStatement ws None rest = IsAbi ws rest

-- child = head statement* "}"
pub record IsPlacedChild (ws : List WordData) (child : PlacedProfile) (rest : List WordData) : Type 0 where
  pub after : List WordData
  pub statements : List (Option PlacedRule)
  pub head_stands : IsHead false ws child.head after
  pub head_placed : IsPlacedHead ws child.place child.flags after
  pub body_stands : Many IsPlacedStatement Closes after statements rest
  pub rules_are : child.rules ≡ flat_map if_any statements

-- what a top-level profile's body holds: statements and children
pub data PlacedPart : Type 0 where
  Stated : Option PlacedRule → PlacedPart
  Held : PlacedProfile → PlacedPart

-- part = statement | child
abbrev pub IsPlacedPart : Production PlacedPart
IsPlacedPart ws (Stated statement) rest = IsPlacedStatement ws statement rest
IsPlacedPart ws (Held child) rest = IsPlacedChild ws child rest

-- the rules that a part adds to a profile, and the children
abbrev pub rules_in : PlacedPart → List PlacedRule
rules_in (Stated statement) = if_any statement
rules_in (Held child) = []

-- the child that a part of a body is, if it is one
abbrev pub children_in : PlacedPart → List PlacedProfile
children_in (Stated statement) = []
children_in (Held child) = child ∷ []

-- profile = head part* "}"
pub record IsPlacedFamily (ws : List WordData) (family : PlacedFamily) (rest : List WordData) : Type 0 where
  pub after : List WordData
  pub parts : List PlacedPart
  pub head_stands : IsHead true ws family.own.head after
  pub head_placed : IsPlacedHead ws family.own.place family.own.flags after
  pub body_stands : Many IsPlacedPart Closes after parts rest
  pub rules_are : family.own.rules ≡ flat_map rules_in parts
  pub children_are : family.children ≡ flat_map children_in parts

-- item = profile | abi: the profile, if it is one
abbrev pub IsPlacedItem : Production (Option PlacedFamily)
IsPlacedItem ws (Some family) rest = IsPlacedFamily ws family rest
IsPlacedItem ws None rest = IsAbi ws rest

-- a top-level profile, and behind it its children
abbrev pub family_row : PlacedFamily → List PlacedProfile
family_row f = f.own ∷ f.children

-- policy = preamble item*: all profiles, as a policy numbers them
pub record IsPlacedPolicy (ws : List WordData) (profiles : List PlacedProfile) : Type 0 where
  pub preamble : List PreambleData
  pub after : List WordData
  pub items : List (Option PlacedFamily)
  pub preamble_stands : IsPreamble ws preamble after
  pub variables_are : IsSome (variables_of preamble)
  pub items_stand : Many IsPlacedItem IsEnd after items []
  pub profiles_are : profiles ≡ flat_map family_row (flat_map if_any items)

-- ---- the places by the kinds of rules

-- where a profile's name stands, its head, its flags without effect, and its rules of each kind, in their order
pub record PlacesData : Type 0 where
  pub at : Spot
  pub head : Extent
  pub flags : List Extent
  pub files : List Spot
  pub caps : List Spot
  pub nets : List Spot
  pub changes : List Spot
  pub passed_over : List Extent

-- the place of a rule, if it is on files
abbrev pub if_file : Spot → RuleData → List Spot
if_file at (OnFile f) = at ∷ []
if_file at (OnCap rule) = []
if_file at (OnNet rule) = []
if_file at (OnChange c) = []
if_file at (Listed keyword) = []

-- the place of a rule, if it is on capabilities
abbrev pub if_cap : Spot → RuleData → List Spot
if_cap at (OnFile f) = []
if_cap at (OnCap rule) = at ∷ []
if_cap at (OnNet rule) = []
if_cap at (OnChange c) = []
if_cap at (Listed keyword) = []

-- the place of a rule, if it is on sockets
abbrev pub if_net : Spot → RuleData → List Spot
if_net at (OnFile f) = []
if_net at (OnCap rule) = []
if_net at (OnNet rule) = at ∷ []
if_net at (OnChange c) = []
if_net at (Listed keyword) = []

-- the place of a rule, if it is on changes of the profile
abbrev pub if_change : Spot → RuleData → List Spot
if_change at (OnFile f) = []
if_change at (OnCap rule) = []
if_change at (OnNet rule) = []
if_change at (OnChange c) = at ∷ []
if_change at (Listed keyword) = []

-- from where to where a rule goes, if it is passed over
abbrev pub if_passed_over : Spot → ℕ → RuleData → List Extent
if_passed_over at end (OnFile f) = []
if_passed_over at end (OnCap rule) = []
if_passed_over at end (OnNet rule) = []
if_passed_over at end (OnChange c) = []
if_passed_over at end (Listed keyword) = record { at = at; end = end } ∷ []

-- the places of rules behind those that are there
unfoldable pub with_rules : PlacesData → List PlacedRule → PlacesData
with_rules p rules = record {
  at = p.at;
  head = p.head;
  flags = p.flags;
  files = p.files ++ flat_map (λ (r : PlacedRule). if_file r.at r.rule) rules;
  caps = p.caps ++ flat_map (λ (r : PlacedRule). if_cap r.at r.rule) rules;
  nets = p.nets ++ flat_map (λ (r : PlacedRule). if_net r.at r.rule) rules;
  changes = p.changes ++ flat_map (λ (r : PlacedRule). if_change r.at r.rule) rules;
  passed_over = p.passed_over ++ flat_map (λ (r : PlacedRule). if_passed_over r.at r.end r.rule) rules;
}

-- the places of a profile without rules
abbrev pub no_places : Spot → Extent → List Extent → PlacesData
no_places at head flags = record { at = at; head = head; flags = flags; files = []; caps = []; nets = []; changes = []; passed_over = [] }

-- where a profile's name, its head with its flags, and its rules stand
abbrev pub places_of : PlacedProfile → PlacesData
places_of p = with_rules (no_places p.head.title.at p.place p.flags) p.rules

-- the same of what the code keeps
abbrev pub places_data : ProfilePlaces → PlacesData
places_data p = record {
  at = p.at;
  head = p.head;
  flags = p.flags.items;
  files = p.files.items;
  caps = p.caps.items;
  nets = p.nets.items;
  changes = p.changes.items;
  passed_over = p.passed_over.items;
}

-- the places of the profiles that the words spell, in their order
abbrev pub ArePlaces : List WordData → List PlacesData → Type 0
ArePlaces ws places = (profiles : List PlacedProfile) × IsPlacedPolicy ws profiles × (places ≡ map places_of profiles)
