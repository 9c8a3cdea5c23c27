-- Which policy the words spell: what is written, then what it means, then what a policy keeps.
-- Source: apparmor.d(5), "change_profile rules", "Format"; own.
use Rattle.std.specs.Prelude.{ℕ, ◌+◌, ◌≡◌, flat_map, List, [], ◌∷◌, ◌++◌, Option, Some, None, option_map, true, Ok}
use Rattle.std.specs.List.{list_any, AllZip, IsDistinct}
use Rattle.std.specs.Str.{bytes_eq}
use Rattle.aa_base.specs.declared.fault.Spot.{Spot}
use Rattle.aa_base.specs.declared.fault.PolicyFault.{PolicyFault}
use Rattle.aa_words.specs.Splits.{WordData}
use Rattle.aa_pattern.specs.declared.pattern.Pattern.{Pattern}
use Rattle.aa_glob.specs.Variables.{Variable}
use Rattle.aa_model.specs.declared.rule.CapRule.{CapRule}
use Rattle.aa_model.specs.declared.rule.ChangeRule.{ChangeRule}
use Rattle.aa_model.specs.declared.rule.Exec.{Exec}
use Rattle.aa_model.specs.declared.rule.FileRule.{FileRule}
use Rattle.aa_model.specs.declared.rule.NetRule.{NetRule}
use Rattle.aa_model.specs.declared.policy.Profile.{Profile}
use Rattle.aa_model.specs.declared.policy.PassedOver.{PassedOver}
use Rattle.aa_model.specs.declared.policy.Policy.{Policy}
use Rattle.aa_policy.specs.Expansion.{PathData, AsPath, AsName, StandsFor, IsFirstRefused}
use Rattle.aa_policy.specs.Bodies.{ProfileData, IsPolicy}
use Rattle.aa_policy.specs.Heads.{AttachmentData}
use Rattle.aa_model.specs.Lawful.{IsWithinLimits, names_of}
use Rattle.aa_glob.specs.Reading.{spelled, tokens}
use Rattle.aa_rules.specs.Reading.{ExecData, FileData, NameData, ChangeData, RuleData, OnFile, OnCap, OnNet, OnChange, Listed}

-- ---- what is written, and what it means

-- the rule, if it is on files; one that is passed over decides nothing
abbrev pub on_file : RuleData → List FileData
on_file (OnFile f) = f ∷ []
on_file (OnCap rule) = []
on_file (OnNet rule) = []
on_file (OnChange c) = []
on_file (Listed keyword) = []

-- the rule, if it is on capabilities
abbrev pub cap_rules_of : RuleData → List CapRule
cap_rules_of (OnFile f) = []
cap_rules_of (OnCap rule) = rule ∷ []
cap_rules_of (OnNet rule) = []
cap_rules_of (OnChange c) = []
cap_rules_of (Listed keyword) = []

-- the rule, if it is on sockets
abbrev pub net_rules_of : RuleData → List NetRule
net_rules_of (OnFile f) = []
net_rules_of (OnCap rule) = []
net_rules_of (OnNet rule) = rule ∷ []
net_rules_of (OnChange c) = []
net_rules_of (Listed keyword) = []

-- the rule, if it is on changes of profile
abbrev pub on_change : RuleData → List ChangeData
on_change (OnFile f) = []
on_change (OnCap rule) = []
on_change (OnNet rule) = []
on_change (OnChange c) = c ∷ []
on_change (Listed keyword) = []

-- how a program may be executed
abbrev pub exec_meant : ExecData → Exec
exec_meant e = record { kind = e.mode.kind; scrub = e.mode.scrub; fallback = e.mode.fallback; target = e.target }

-- the rules on files, in order
abbrev pub files_of : List RuleData → List FileData
files_of rules = flat_map on_file rules

-- the rules on changes of the profile, in order
abbrev pub changes_of : List RuleData → List ChangeData
changes_of rules = flat_map on_change rules

-- the file rule says what is written, of the paths that the patterns of its path match; allow says what is so without it
pub record MeansRule (vars : List Variable) (f : FileData) (r : FileRule) : Type 0 where
  pub audit_is : r.audit ≡ f.qualifiers.audit
  pub deny_is : r.deny ≡ f.qualifiers.deny
  pub owner_is : r.owner ≡ f.owner
  pub perms_are : r.perms ≡ f.perms
  pub exec_is : r.exec ≡ option_map exec_meant f.exec
  pub stands : StandsFor vars f.path r.patterns

-- the pattern is what the name behind the arrow is read as; without a name there is none
abbrev pub Aims : Option NameData → Option Pattern → Type 0
Aims None None = Unit {0}
Aims (Some name) (Some pattern) = tokens name.text ≡ Ok (spelled pattern.items.items)
Aims _ _ = ⊥

-- the rule on changes of profile says what is written; allow says what is so without it
pub record MeansChange (c : ChangeData) (r : ChangeRule) : Type 0 where
  pub audit_is : r.audit ≡ c.qualifiers.audit
  pub deny_is : r.deny ≡ c.qualifiers.deny
  pub aims : Aims c.name r.pattern

-- the patterns are what an attachment's path stands for; without one there are none
abbrev pub AttachesTo : List Variable → Option AttachmentData → List Pattern → Type 0
AttachesTo vars None patterns = patterns ≡ []
AttachesTo vars (Some attachment) patterns = StandsFor vars attachment.path patterns

-- a profile with the flags and the rules that are written
pub record MeansProfile (vars : List Variable) (p : ProfileData) (q : Profile) : Type 0 where
  pub at_is : q.at ≡ p.at
  pub name_is : q.name ≡ p.name
  pub parent_is : q.parent ≡ p.parent
  pub attaches : AttachesTo vars p.attachment q.attachments
  pub complain_is : q.complain ≡ p.flags.complain
  pub audit_is : q.audit ≡ p.flags.audit
  pub files_are : AllZip (MeansRule vars) (files_of p.rules) q.files
  pub caps_are : q.caps ≡ flat_map cap_rules_of p.rules
  pub nets_are : q.nets ≡ flat_map net_rules_of p.rules
  pub changes_are : AllZip MeansChange (changes_of p.rules) q.changes

-- the profiles that are written, in their order
abbrev pub MeansProfiles : List Variable → List ProfileData → List Profile → Type 0
MeansProfiles vars tree profiles = AllZip (MeansProfile vars) tree profiles

-- the rule, if it is passed over, under the number of its profile
abbrev pub listed_at : ℕ → RuleData → List PassedOver
listed_at number (OnFile f) = []
listed_at number (OnCap rule) = []
listed_at number (OnNet rule) = []
listed_at number (OnChange c) = []
listed_at number (Listed keyword) = record { profile = number; kind = keyword } ∷ []

-- the rules that are passed over in the profiles, of which the first has this number
abbrev pub passed_over_from : ℕ → List ProfileData → List PassedOver
passed_over_from number [] = []
passed_over_from number (p ∷ ps) = flat_map (listed_at number) p.rules ++ passed_over_from (number + 1) ps

-- ---- why what is written has no meaning

-- the path of a file rule, at its place
abbrev pub rule_paths : RuleData → List PathData
rule_paths (OnFile f) = record { at = f.at; text = f.path; way = AsPath } ∷ []
rule_paths (OnCap rule) = []
rule_paths (OnNet rule) = []
rule_paths (OnChange c) = []
rule_paths (Listed keyword) = []

-- the name behind an arrow, at its place, if there is one
abbrev pub named_paths : Option NameData → List PathData
named_paths None = []
named_paths (Some n) = record { at = n.at; text = n.text; way = AsName } ∷ []

-- the name of a rule on changes of profile
abbrev pub change_paths : RuleData → List PathData
change_paths (OnFile f) = []
change_paths (OnCap rule) = []
change_paths (OnNet rule) = []
change_paths (OnChange c) = named_paths c.name
change_paths (Listed keyword) = []

-- the texts of a body in the order in which they are read: the paths of file rules, and then the names
abbrev pub paths_of_rules : List RuleData → List PathData
paths_of_rules rules = flat_map rule_paths rules ++ flat_map change_paths rules

-- the path that a profile attaches to, if it attaches
abbrev pub attachment_paths : Option AttachmentData → List PathData
attachment_paths None = []
attachment_paths (Some a) = record { at = a.at; text = a.path; way = AsPath } ∷ []

-- the texts of a profile in the order in which they are read: its attachment's path, and then those of its body
abbrev pub profile_paths : ProfileData → List PathData
profile_paths p = attachment_paths p.attachment ++ paths_of_rules p.rules

-- all paths with what they are of, in the order in which they are expanded
abbrev pub paths_of : List ProfileData → List PathData
paths_of tree = flat_map profile_paths tree

-- ---- the relation

-- the words spell the policy
pub record Spells (ws : List WordData) (policy : Policy) : Type 0 where
  pub vars : List Variable
  pub tree : List ProfileData
  pub written : IsPolicy ws vars tree
  pub means : MeansProfiles vars tree policy.profiles
  pub distinct : IsDistinct bytes_eq (names_of policy.profiles)
  pub limits : IsWithinLimits policy.profiles
  pub passed_over : policy.passed_over ≡ passed_over_from 0 tree

-- ---- what a refusal behind the first pass says

-- the start of the main text
abbrev pub text_start : Spot
text_start = record { file = 0; byte = 0 }

-- the words are written right, and this is the first refusal of a path or a name
pub record IsPathFault (ws : List WordData) (fault : PolicyFault) : Type 0 where
  pub vars : List Variable
  pub tree : List ProfileData
  pub written : IsPolicy ws vars tree
  pub first : IsFirstRefused vars (paths_of tree) fault

-- an earlier profile has the name of the one whose name stands there; before it the names are distinct
pub record IsRepeated (profiles : List Profile) (at : Spot) : Type 0 where
  pub before : List Profile
  pub profile : Profile
  pub after : List Profile
  pub cut : profiles ≡ before ++ profile ∷ after
  pub at_is : profile.at ≡ at
  pub repeats : list_any (bytes_eq profile.name) (names_of before) ≡ true
  pub first : IsDistinct bytes_eq (names_of before)

-- the words are written right, each path expands, and the name there is an earlier profile's
pub record IsDuplicate (ws : List WordData) (at : Spot) : Type 0 where
  pub vars : List Variable
  pub tree : List ProfileData
  pub written : IsPolicy ws vars tree
  pub profiles : List Profile
  pub means : MeansProfiles vars tree profiles
  pub repeated : IsRepeated profiles at

-- the words are written right, each path expands, names are distinct, and a limit is passed
pub record IsOverLimits (ws : List WordData) : Type 0 where
  pub vars : List Variable
  pub tree : List ProfileData
  pub written : IsPolicy ws vars tree
  pub profiles : List Profile
  pub means : MeansProfiles vars tree profiles
  pub distinct : IsDistinct bytes_eq (names_of profiles)
  pub over : IsWithinLimits profiles → ⊥
