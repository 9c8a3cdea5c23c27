-- The bodies of profiles, profiles, and a policy as a whole.
-- Source: apparmor.d(5), "Profiles", "Format"; own.
use Rattle.std.specs.Prelude.{ℕ, ◌+◌, ◌≡◌, List, [], ◌∷◌, ◌++◌, map, flat_map, length, codes, nat_lt, if◌then◌else◌, Option, Some, None, option_map, option_and_then, true, false}
use Rattle.aa_base.specs.declared.fault.Spot.{Spot}
use Rattle.aa_words.specs.Splits.{WordData}
use Rattle.aa_glob.specs.Variables.{Variable}
use Rattle.aa_policy.specs.declared.tree.ChildTree.{ChildTree}
use Rattle.aa_policy.specs.declared.tree.FamilyTree.{FamilyTree}
use Rattle.aa_policy.specs.declared.tree.ParentTree.{ParentTree}
use Rattle.aa_policy.specs.declared.tree.ProfileTree.{ProfileTree}
use Rattle.aa_policy.specs.declared.bodies.PartTree.{PartTree}
use Rattle.aa_policy.specs.declared.bodies.PartTree.TheVariants.{States, Holds}
use Rattle.aa_rules.specs.Grammar.{Production, Many, IsRule, Closes, IsEnd}
use Rattle.aa_policy.specs.declared.heads.HeadFlags.{HeadFlags}
use Rattle.aa_policy.specs.Heads.{AttachmentData, attachment_data, HeadData, head_data, IsHead}
use Rattle.aa_policy.specs.Preamble.{PreambleData, IsAbi, IsPreamble, variables_of}
use Rattle.aa_rules.specs.Reading.{RuleData, rule_data}

-- ---- what is written

-- a child profile as written: its head, and its rules in order
pub record ChildData : Type 0 where
  pub head : HeadData
  pub rules : List RuleData

-- a top-level profile as written: its head, its rules in order, and its children in order
pub record FamilyData : Type 0 where
  pub head : HeadData
  pub rules : List RuleData
  pub children : List ChildData

-- the same without where texts lie in memory
abbrev pub child_data : ChildTree → ChildData
child_data t = record { head = head_data t.head; rules = map rule_data t.rules.items }

-- a top-level profile with its children, without where they lie in memory
abbrev pub family_data : FamilyTree → FamilyData
family_data t = record { head = head_data t.head; rules = map rule_data t.rules.items; children = map child_data t.children.items }

-- ---- bodies

-- one thing, or none
abbrev pub if_any : {X : Type 0} → Option X → List X
if_any None = []
if_any (Some x) = x ∷ []

-- statement = rule | abi: its rule, if it has one
abbrev pub IsStatement : Production (Option RuleData)
IsStatement ws (Some rule) rest = IsRule ws rule rest
IsStatement ws None rest = IsAbi ws rest

-- child = head statement* "}"
pub record IsChild (ws : List WordData) (child : ChildData) (rest : List WordData) : Type 0 where
  pub after : List WordData
  pub statements : List (Option RuleData)
  pub head_stands : IsHead false ws child.head after
  pub body_stands : Many IsStatement Closes after statements rest
  pub rules_are : child.rules ≡ flat_map if_any statements

-- what a top-level profile's body holds: statements and children
pub data PartData : Type 0 where
  Stated : Option RuleData → PartData
  Held : ChildData → PartData

-- part = statement | child
abbrev pub IsBodyPart : Production PartData
IsBodyPart ws (Stated statement) rest = IsStatement ws statement rest
IsBodyPart ws (Held child) rest = IsChild ws child rest

-- a part of a body, without where it lies in memory
abbrev pub part_data : PartTree → PartData
part_data (States statement) = Stated (option_map rule_data statement)
part_data (Holds child) = Held (child_data child)

-- the rules that a part adds to a profile, and the children
abbrev pub rules_in : PartData → List RuleData
rules_in (Stated statement) = if_any statement
rules_in (Held child) = []

-- the child that a part of a body is, if it is one
abbrev pub children_in : PartData → List ChildData
children_in (Stated statement) = []
children_in (Held child) = child ∷ []

-- profile = head part* "}"
pub record IsProfile (ws : List WordData) (profile : FamilyData) (rest : List WordData) : Type 0 where
  pub after : List WordData
  pub parts : List PartData
  pub head_stands : IsHead true ws profile.head after
  pub body_stands : Many IsBodyPart Closes after parts rest
  pub rules_are : profile.rules ≡ flat_map rules_in parts
  pub children_are : profile.children ≡ flat_map children_in parts

-- ---- the row of profiles

-- a profile in the row of all: where its name stands, its full name, its parent's number, what it attaches to, its flags, its rules in order
pub record ProfileData : Type 0 where
  pub at : Spot
  pub name : List ℕ
  pub parent : Option ℕ
  pub attachment : Option AttachmentData
  pub flags : HeadFlags
  pub rules : List RuleData

-- the full name of a child
abbrev pub child_name : List ℕ → List ℕ → List ℕ
child_name parent name = parent ++ codes "//" ++ name

-- a number that a policy may have; its limits leave none without
abbrev pub number_of : ℕ → Option ℕ
number_of n = if nat_lt n 65536 then Some n else None

-- a top-level profile, without its children
abbrev pub top_profile : FamilyData → ProfileData
top_profile f = record { at = f.head.title.at; name = f.head.title.name; parent = None; attachment = f.head.title.attachment; flags = f.head.flags; rules = f.rules }

-- a child of the profile with that number and name
abbrev pub child_profile : ℕ → List ℕ → ChildData → ProfileData
child_profile number parent c = record {
  at = c.head.title.at;
  name = child_name parent c.head.title.name;
  parent = number_of number;
  attachment = c.head.title.attachment;
  flags = c.head.flags;
  rules = c.rules;
}

-- a top-level profile with that number, and behind it its children
abbrev pub family : ℕ → FamilyData → List ProfileData
family number f = top_profile f ∷ map (child_profile number f.head.title.name) f.children

-- all profiles, of which the first has that number
abbrev pub row_from : ℕ → List FamilyData → List ProfileData
row_from number [] = []
row_from number (f ∷ fs) = family number f ++ row_from (number + length (family number f)) fs

-- the profiles of one item, of which the first has that number
abbrev pub row_of : ℕ → Option FamilyData → List ProfileData
row_of number None = []
row_of number (Some f) = family number f

-- the same of what lies in memory
abbrev pub full_name : Option ParentTree → List ℕ → List ℕ
full_name None name = name
full_name (Some parent) name = child_name parent.name.now name

-- a profile, without where it lies in memory
abbrev pub profile_data : ProfileTree → ProfileData
profile_data t = record {
  at = t.head.title.at;
  name = full_name t.parent t.head.title.name.now;
  parent = option_and_then (λ p. p.number) t.parent;
  attachment = option_map attachment_data t.head.title.attachment;
  flags = t.head.flags;
  rules = map rule_data t.rules.items;
}

-- profiles, without where they lie in memory
abbrev pub tree_data : List ProfileTree → List ProfileData
tree_data ts = map profile_data ts

-- ---- a policy

-- item = profile | abi: the profile, if it is one
abbrev pub IsItem : Production (Option FamilyData)
IsItem ws (Some profile) rest = IsProfile ws profile rest
IsItem ws None rest = IsAbi ws rest

-- policy = preamble item*: the variables of the preamble, and all profiles
pub record IsPolicy (ws : List WordData) (vars : List Variable) (tree : List ProfileData) : Type 0 where
  pub preamble : List PreambleData
  pub after : List WordData
  pub items : List (Option FamilyData)
  pub preamble_stands : IsPreamble ws preamble after
  pub variables_are : variables_of preamble ≡ Some vars
  pub items_stand : Many IsItem IsEnd after items []
  pub profiles_are : tree ≡ row_from 0 (flat_map if_any items)
