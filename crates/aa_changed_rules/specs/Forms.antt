-- What rules say, as numbers: rules of one kind that say the same, and those alone, have the same.
-- Source: own.
use Rattle.std.specs.Prelude.{ℕ, List, [], ◌∷◌, ◌++◌, map, flat_map, length, Bool, Option, Some, None, if◌then◌else◌, Vec}
use Rattle.std.specs.Global.{Global}
use Rattle.std.specs.BTreeSet.{insert_key}
use Rattle.std.specs.Ordering.{nat_cmp}
use Rattle.std.specs.Cmp.Lexicographic.{slice_cmp}
use Rattle.aa_pattern.specs.declared.pattern.Pattern.{Pattern}
use Rattle.aa_model.specs.declared.rule.Exec.{Exec}
use Rattle.aa_model.specs.declared.rule.ExecKind.{ExecKind}
use Rattle.aa_model.specs.declared.rule.ExecKind.TheVariants as kind
use Rattle.aa_model.specs.declared.rule.Fallback.{Fallback}
use Rattle.aa_model.specs.declared.rule.Fallback.TheVariants as fallback
use Rattle.aa_model.specs.declared.rule.FileRule.{FileRule}
use Rattle.aa_model.specs.declared.rule.CapRule.{CapRule}
use Rattle.aa_model.specs.declared.rule.NetRule.{NetRule}
use Rattle.aa_model.specs.declared.rule.ChangeRule.{ChangeRule}
use Rattle.aa_changed_rules.specs.Codes.{pattern_code}

-- the same without where they lie in memory
abbrev pub lists : List (Vec ℕ Global) → List (List ℕ)
lists vs = map (λ v. v.items) vs

-- one where it is so, else none
abbrev pub flag : Bool → ℕ
flag is_so = if is_so then 1 else 0

-- each kind has its number
abbrev pub kind_number : ExecKind → ℕ
kind_number kind.Inherit = 0
kind_number kind.Unconfined = 1
kind_number kind.Profile = 2
kind_number kind.Child = 3

-- so has each fallback
abbrev pub fallback_number : Fallback → ℕ
fallback_number fallback.Refuse = 0
fallback_number fallback.Inherit = 1
fallback_number fallback.Unconfined = 2

-- a name, if there is one
abbrev pub name_form : Option (List ℕ) → List ℕ
name_form None = []
name_form (Some name) = 1 ∷ name

-- a way to execute a program
abbrev pub way_form : Exec → List ℕ
way_form e = kind_number e.kind ∷ fallback_number e.fallback ∷ flag e.scrub ∷ name_form e.target

-- the same, if the rule says it
abbrev pub exec_form : Option Exec → List ℕ
exec_form None = []
exec_form (Some e) = way_form e

-- lists put among others that ascend, each once
abbrev pub ascending_behind : List (List ℕ) → List (List ℕ) → List (List ℕ)
ascending_behind done [] = done
ascending_behind done (c ∷ cs) = ascending_behind (insert_key (slice_cmp nat_cmp) done c) cs

-- lists as a set: in ascending order, each once
abbrev pub ascending : List (List ℕ) → List (List ℕ)
ascending cs = ascending_behind [] cs

-- numbers behind how many they are
abbrev pub counted : List ℕ → List ℕ
counted ns = length ns ∷ ns

-- lists, each so, behind how many they are
abbrev pub counted_all : List (List ℕ) → List ℕ
counted_all cs = length cs ∷ flat_map counted cs

-- patterns as a set
abbrev pub patterns_form : List Pattern → List ℕ
patterns_form ps = counted_all (ascending (map pattern_code ps))

-- a rule on files: its flags, its permissions, its patterns as a set, and how a program is executed
abbrev pub file_form : FileRule → List ℕ
file_form r = flag r.audit ∷ flag r.deny ∷ flag r.owner ∷ r.perms.0 ∷ (patterns_form r.patterns ++ exec_form r.exec)

-- one on capabilities
abbrev pub cap_form : CapRule → List ℕ
cap_form r = flag r.audit ∷ flag r.deny ∷ r.caps.0 ∷ []

-- one on sockets
abbrev pub net_form : NetRule → List ℕ
net_form r = flag r.audit ∷ flag r.deny ∷ r.families ∷ r.kinds ∷ []

-- a pattern, if there is one
abbrev pub any_form : Option Pattern → List ℕ
any_form None = []
any_form (Some p) = counted (pattern_code p)

-- a rule on changes of profile
abbrev pub change_form : ChangeRule → List ℕ
change_form r = flag r.audit ∷ flag r.deny ∷ any_form r.pattern
