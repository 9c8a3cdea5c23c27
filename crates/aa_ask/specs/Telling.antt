-- What the reasons that are named have to do with the answer.
-- Source: apparmor.d(5), "Profile flags"; own.
use Rattle.std.specs.Prelude.{◌≡◌, ◌<◌, ℕ, nat_lt, List, Bool, true, false, ◌==◌, ◌&&◌, ◌||◌, Some, is_some}
use Rattle.std.specs.Option.{option_map_or}
use Rattle.std.specs.List.{All, slice_get}
use Rattle.aa_model.specs.declared.policy.Policy.{Policy}
use Rattle.aa_model.specs.declared.policy.Profile.{Profile}
use Rattle.aa_compile.specs.FileRules.{is_nil}
use Rattle.aa_compile.specs.Labels.{label_named}
use Rattle.aa_model.specs.declared.request.Request.{Request}
use Rattle.aa_model.specs.declared.request.Request.TheVariants.{File, Link, Exec, Cap, Net, Change, Reload}
use Rattle.aa_model.specs.declared.label.Label.TheVariants.{Confined}
use Rattle.aa_mediate.specs.Reply.{reply}
use Rattle.aa_explain.specs.Deciders.{Reasons}
use Rattle.aa_explain.specs.Sayings.{reasons_of}

-- a set of permissions has eight bits
abbrev pub HasBytes : Profile → Type 0
HasBytes p = All (λ r. r.perms.0 < 256) p.files

-- no rule denies it, and none is wanting; in complain mode the first is enough
abbrev pub grant : Bool → Bool → Reasons → Bool
grant complain found r = is_nil r.denies && (complain || r.lacking == 0 && found)

-- granted exactly where the reasons grant it
abbrev pub Tells : List Policy → ℕ → ℕ → Profile → Request → Bool → Type 0
Tells policies k n p request found =
    (reply policies (Confined k n) request).granted ≡ option_map_or (grant p.complain found) (reasons_of p request) false

-- the rules of its profile alone decide it: a request for a file by a set of eight bits, for a capability or a socket, or for a change
abbrev pub is_decided_alone : Request → Bool
is_decided_alone (File f) = nat_lt f.mask.0 256
is_decided_alone (Link l) = false
is_decided_alone (Exec e) = false
is_decided_alone (Cap c) = true
is_decided_alone (Net family kind) = true
is_decided_alone (Change name) = true
is_decided_alone (Reload policy) = false

-- what it leads to is there: a change needs a label of its name
abbrev pub has_label : List Policy → ℕ → Request → Bool
has_label policies k (Change name) = is_some (label_named policies k name)
has_label policies k _ = true

-- so it is of each request that the profile's rules alone decide
abbrev pub ReasonsTell : List Policy → ℕ → ℕ → Profile → Type 0
ReasonsTell policies k n p = (request : Request) → is_decided_alone request ≡ true → Tells policies k n p request (has_label policies k request)

-- it holds in each profile of each policy
abbrev pub ReasonsTellAnswers : Type 0
ReasonsTellAnswers = (policies : List Policy) (policy : Policy) (k n : ℕ) (p : Profile)
    → slice_get policies k ≡ Some policy → slice_get policy.profiles n ≡ Some p → HasBytes p → ReasonsTell policies k n p
