-- What rules say beside what others say.
-- Source: own.
use Rattle.std.specs.Prelude.{◌≡◌, ◌⊎◌, ℕ, ◌<◌, List, [], Bool, Option, None, length, bit_and}
use Rattle.aa_base.specs.Tables.{capability_names, family_names, sock_type_names}
use Rattle.aa_base.specs.declared.perms.Perms.{Perms}
use Rattle.aa_model.specs.declared.rule.FileRule.{FileRule}
use Rattle.aa_model.specs.declared.rule.CapRule.{CapRule}
use Rattle.aa_model.specs.declared.rule.NetRule.{NetRule}
use Rattle.aa_model.specs.declared.rule.ChangeRule.{ChangeRule}
use Rattle.aa_compile.specs.FileRules.{file_verdict}
use Rattle.aa_regions.specs.Regions.{IsAsked}
use Rattle.aa_regions.specs.Wanted.{IsWanted}
use Rattle.aa_mediate.specs.Held.{cap_verdict, net_verdict, change_verdict}
use Rattle.aa_redundancy.specs.declared.rights.Rights.{Rights}
use Rattle.aa_redundancy.specs.Rights.{rights, lead}
use Rattle.aa_redundancy.specs.Tables.{Relation}

-- these permissions are among those
abbrev pub AreAmong : Perms → Perms → Type 0
AreAmong these those = bit_and these.0 those.0 ≡ these.0

-- what is granted and what is denied is so by the others too
abbrev pub IsWithin : Rights → Rights → Type 0
IsWithin v w = AreAmong v.granted w.granted × AreAmong v.denied w.denied

-- nowhere, or to the same
abbrev pub LeadsAlike : {X : Type 0} → Option X → Option X → Type 0
LeadsAlike a b = (a ≡ None) ⊎ (a ≡ b)

-- what is said is said by the others too
abbrev pub Within : Relation
Within x y = IsWithin x.rights y.rights × LeadsAlike x.chosen.way y.chosen.way

-- of each file that can be asked for, the others grant and deny what rules grant and deny, and say to execute it as these do, if they do
abbrev pub FilesWithin : List FileRule → List FileRule → Type 0
FilesWithin rules others = (path : List ℕ) (owned : Bool) → IsAsked path
    → IsWithin (rights (file_verdict rules path owned)) (rights (file_verdict others path owned)) × LeadsAlike (lead rules path owned).way (lead others path owned).way

-- so of each capability of the table
abbrev pub CapsWithin : List CapRule → List CapRule → Type 0
CapsWithin rules others = (c : ℕ) → c < length capability_names → IsWithin (rights (cap_verdict rules c)) (rights (cap_verdict others c))

-- of a socket of each family and each type of the tables
abbrev pub NetsWithin : List NetRule → List NetRule → Type 0
NetsWithin rules others = (f s : ℕ) → f < length family_names → s < length sock_type_names → IsWithin (rights (net_verdict rules f s)) (rights (net_verdict others f s))

-- of a change to each name of at most 1,024 bytes without a zero byte
abbrev pub ChangesWithin : List ChangeRule → List ChangeRule → Type 0
ChangesWithin rules others = (name : List ℕ) → IsWanted [] 1 1024 name → IsWithin (rights (change_verdict rules name)) (rights (change_verdict others name))
