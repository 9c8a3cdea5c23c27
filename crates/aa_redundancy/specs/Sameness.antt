-- Rules in whose place others may stand.
-- Source: own.
use Rattle.std.specs.Prelude.{◌≡◌, ℕ, ◌<◌, List, [], ◌∷◌, Bool, length}
use Rattle.std.specs.List.{All, AllZip}
use Rattle.aa_base.specs.Tables.{capability_names, family_names, sock_type_names}
use Rattle.aa_model.specs.declared.rule.FileRule.{FileRule}
use Rattle.aa_model.specs.declared.rule.CapRule.{CapRule}
use Rattle.aa_model.specs.declared.rule.NetRule.{NetRule}
use Rattle.aa_model.specs.declared.rule.ChangeRule.{ChangeRule}
use Rattle.aa_model.specs.declared.policy.Policy.{Policy}
use Rattle.aa_model.specs.declared.policy.Profile.{Profile}
use Rattle.aa_model.specs.declared.label.Label.{Label}
use Rattle.aa_model.specs.declared.request.Request.{Request}
use Rattle.aa_model.specs.declared.answer.Answer.{Answer}
use Rattle.aa_machine.specs.Run.{replies}
use Rattle.aa_compile.specs.FileRules.{file_verdict}
use Rattle.aa_regions.specs.Regions.{IsAsked}
use Rattle.aa_regions.specs.Wanted.{IsWanted}
use Rattle.aa_mediate.specs.Held.{cap_verdict, net_verdict, change_verdict}
use Rattle.aa_mediate.specs.Reply.{reply}
use Rattle.aa_representatives.specs.Askable.{IsAskable}
use Rattle.aa_redundancy.specs.Rights.{rights, lead}

-- both say the same of each file that can be asked for: the four sets, and how it is executed
abbrev pub SameFiles : List FileRule → List FileRule → Type 0
SameFiles rules others = (path : List ℕ) (owned : Bool) → IsAsked path
    → (rights (file_verdict rules path owned) ≡ rights (file_verdict others path owned)) × (lead rules path owned ≡ lead others path owned)

-- of each capability of the table
abbrev pub SameCaps : List CapRule → List CapRule → Type 0
SameCaps rules others = (c : ℕ) → c < length capability_names → rights (cap_verdict rules c) ≡ rights (cap_verdict others c)

-- of a socket of each family and each type of the tables
abbrev pub SameNets : List NetRule → List NetRule → Type 0
SameNets rules others = (f s : ℕ) → f < length family_names → s < length sock_type_names → rights (net_verdict rules f s) ≡ rights (net_verdict others f s)

-- of a change to each name of at most 1,024 bytes without a zero byte
abbrev pub SameChanges : List ChangeRule → List ChangeRule → Type 0
SameChanges rules others = (name : List ℕ) → IsWanted [] 1 1024 name → rights (change_verdict rules name) ≡ rights (change_verdict others name)

-- two profiles that others can't tell apart, and that have the same flags, say the same of whatever can be asked
pub record SaySame (p q : Profile) : Type 0 where
  pub name : p.name ≡ q.name
  pub parent : p.parent ≡ q.parent
  pub attachments : p.attachments ≡ q.attachments
  pub complain : p.complain ≡ q.complain
  pub audit : p.audit ≡ q.audit
  pub files : SameFiles p.files q.files
  pub caps : SameCaps p.caps q.caps
  pub nets : SameNets p.nets q.nets
  pub changes : SameChanges p.changes q.changes

-- as many profiles, each saying the same as the other in its place
abbrev pub PoliciesSaySame : Policy → Policy → Type 0
PoliciesSaySame p q = AllZip SaySame p.profiles q.profiles

-- the answers of a task to requests, one after another, each of which may move its label
abbrev pub answers_to : Policy → Label → List Request → List Answer
answers_to p l rs = replies (λ (label : Label) (r : Request). (reply (p ∷ []) label r).label) (reply (p ∷ [])) l rs

-- policies that say the same answer whatever can be asked the same, one request after another
abbrev pub SayingSameAnswersSame : Type 0
SayingSameAnswersSame = (p q : Policy) → PoliciesSaySame p q → (l : Label) (rs : List Request) → All IsAskable rs → answers_to p l rs ≡ answers_to q l rs
