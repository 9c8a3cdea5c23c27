-- Finitely many requests that stand for all others of their kind.
-- Source: own.
use Rattle.std.specs.Prelude.{◌≡◌, ℕ, ◌<◌, List, ◌++◌, Bool, true, Contains}
use Rattle.aa_model.specs.Requests.{is_mask, is_wanted_name}
use Rattle.aa_model.specs.declared.policy.Policy.{Policy}
use Rattle.aa_model.specs.declared.label.Label.{Label}
use Rattle.aa_model.specs.declared.request.Request.{Request}
use Rattle.aa_model.specs.declared.request.Request.TheVariants.{File, Link, Exec, Change}
use Rattle.aa_compile.specs.Said.{perms_of}
use Rattle.aa_mediate.specs.Reply.{reply}

-- these are requests of a kind, and each request of the kind is answered at the label as one of them is
pub record AreRepresentatives (policies : List Policy) (label : Label) (Kind : Request → Type 0) (rs : List Request) : Type 0 where
  pub each : (r : Request) → Contains rs r → Kind r
  pub all : (r : Request) → Kind r → (q : Request) × Contains rs q × (reply policies label r ≡ reply policies label q)

-- requests of a kind are added behind others
pub record Adds (Kind : Request → Type 0) (old new : List Request) : Type 0 where
  pub more : List Request
  pub are : new ≡ old ++ more
  pub each : (r : Request) → Contains more r → Kind r

-- among the requests are those to use the file at the path by each mask below n, of the owner and of others
abbrev pub HasFiles : List ℕ → ℕ → List Request → Type 0
HasFiles path n rs = (mask : ℕ) (owned : Bool) → mask < n → is_mask mask ≡ true → Contains rs (File (record { path = path; mask = perms_of mask; owned = owned }))

-- among the requests are those to execute the file at the path, of the owner and of others
abbrev pub HasExecs : List ℕ → List Request → Type 0
HasExecs path rs = (owned : Bool) → Contains rs (Exec (record { path = path; owned = owned }))

-- among the requests is that to change to the name, if that can be asked for
abbrev pub HasChange : List ℕ → List Request → Type 0
HasChange name rs = is_wanted_name name ≡ true → Contains rs (Change name)

-- among the requests are those to make a hard link at the path to the file at another, of the owner and of others
abbrev pub HasLinks : List ℕ → List ℕ → List Request → Type 0
HasLinks path other rs = (owned : Bool) → Contains rs (Link (record { link = path; target = other; owned = owned }))
