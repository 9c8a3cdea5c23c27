-- Policies without rules that can go.
-- Source: own.
use Rattle.std.specs.Prelude.{◌≡◌, ℕ, ◌<◌, List, [], ◌∷◌, Bool, true, length}
use Rattle.std.specs.List.{All}
use Rattle.aa_model.specs.declared.policy.Policy.{Policy}
use Rattle.aa_model.specs.declared.policy.Profile.{Profile}
use Rattle.aa_model.specs.declared.label.Label.{Label}
use Rattle.aa_model.specs.declared.request.Request.{Request}
use Rattle.aa_representatives.specs.Askable.{IsAskable}
use Rattle.aa_redundancy.specs.declared.going.Going.{Going}
use Rattle.aa_redundancy.specs.declared.fault.UntoldProfile.{UntoldProfile}
use Rattle.aa_redundancy.specs.declared.places.PlaceNumbers.{PlaceNumbers}
use Rattle.aa_redundancy.specs.Without.{without, only, marked}
use Rattle.aa_redundancy.specs.Going.{AreGoing}
use Rattle.aa_redundancy.specs.Places.{gone_at}
use Rattle.aa_redundancy.specs.Kept.{SameBut}
use Rattle.aa_redundancy.specs.Sameness.{answers_to}

-- one place that can go by itself is gone, or all that can go together
pub data CanGo (count : ℕ) (g : Going) (gone : ℕ → Bool) : Type 0 where
  OnePlace : (i : ℕ) → i < count → marked g.alone.items i ≡ true → gone ≡ only i → CanGo count g gone
  AllPlaces : gone ≡ marked g.together.items → CanGo count g gone

-- a profile without the rules whose places are gone, and with all else
pub record IsWithout (gone : ℕ → Bool) (ns : PlaceNumbers) (p q : Profile) : Type 0 where
  pub name : p.name ≡ q.name
  pub parent : p.parent ≡ q.parent
  pub attachments : p.attachments ≡ q.attachments
  pub complain : p.complain ≡ q.complain
  pub audit : p.audit ≡ q.audit
  pub files : q.files ≡ without (gone_at gone ns.files) p.files
  pub caps : q.caps ≡ without (gone_at gone ns.caps) p.caps
  pub nets : q.nets ≡ without (gone_at gone ns.nets) p.nets
  pub changes : q.changes ≡ without (gone_at gone ns.changes) p.changes

-- so each, with its numbers
abbrev pub AreWithout : (ℕ → Bool) → List PlaceNumbers → List Profile → List Profile → Type 0
AreWithout gone [] [] [] = Unit {0}
AreWithout gone (n ∷ ns) (p ∷ ps) (q ∷ qs) = IsWithout gone n p q × AreWithout gone ns ps qs
AreWithout gone _ _ _ = ⊥

-- a policy without the rules of a place that can go by itself, or of all places that can go together, answers every list of requests as the policy
abbrev pub SparedAnswersSame : Type 0
SparedAnswersSame = (p q : Policy) (ns : List PlaceNumbers) (us : List UntoldProfile) (count : ℕ) (held : List Bool) (g : Going)
    → AreGoing (SameBut us p.profiles ns (length p.profiles)) count held g
    → (gone : ℕ → Bool) → CanGo count g gone → AreWithout gone ns p.profiles q.profiles
    → (l : Label) (rs : List Request) → All IsAskable rs → answers_to p l rs ≡ answers_to q l rs
