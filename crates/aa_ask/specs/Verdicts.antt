-- What a verdict has of the mediator's answer, and where the rules that it names stand.
-- Source: apparmor.d(5), "Profile flags"; own.
use Rattle.std.specs.Prelude.{ℕ, ◌≡◌, List, Bool, true, false, Option, None}
use Rattle.std.specs.Option.{option_map_or}
use Rattle.aa_base.specs.declared.fault.Spot.{Spot}
use Rattle.aa_model.specs.declared.policy.Policy.{Policy}
use Rattle.aa_model.specs.declared.policy.Profile.{Profile}
use Rattle.aa_model.specs.declared.label.Label.{Label}
use Rattle.aa_model.specs.declared.label.Label.TheVariants.{Unconfined, Confined}
use Rattle.aa_model.specs.declared.answer.Answer.{Answer}
use Rattle.aa_model.specs.declared.answer.Note.{Note}
use Rattle.aa_model.specs.declared.answer.NoteWord.{NoteWord}
use Rattle.aa_model.specs.declared.answer.NoteWord.TheVariants.{Allowed}
use Rattle.aa_compile.specs.Labels.{profile_in}
use Rattle.aa_explain.specs.declared.deciders.Listed.{Listed}
use Rattle.aa_explain.specs.declared.deciders.Listed.TheVariants.{Files, Caps, Nets, Changes}
use Rattle.aa_explain.specs.declared.places.ProfilePlaces.{ProfilePlaces}
use Rattle.aa_ask.specs.declared.verdict.Verdict.{Verdict}

-- complain mode granted it
abbrev pub says_allowed : NoteWord → Bool
says_allowed Allowed = true
says_allowed _ = false

-- granted by complain mode alone: the rules refuse it, and the note says that it was allowed
abbrev pub is_by_complain : Answer → Bool
is_by_complain a = option_map_or (λ (n : Note). says_allowed n.word) a.note false

-- a verdict tells the mediator's answer
pub record IsVerdict (a : Answer) (v : Verdict) : Type 0 where
  pub granted : v.granted ≡ a.granted
  pub scrub : v.scrub ≡ a.scrub
  pub complain : v.complain ≡ is_by_complain a

-- the profile of a label, if it has one
abbrev pub profile_at : List Policy → Label → Option Profile
profile_at policies (Unconfined k) = None
profile_at policies (Confined k n) = profile_in policies k n

-- the number of a label's profile in its policy
abbrev pub number_in : Label → ℕ
number_in (Unconfined k) = 0
number_in (Confined k n) = n

-- the places of the rules of a list
abbrev pub spots_of : Listed → ProfilePlaces → List Spot
spots_of Files places = places.files.items
spots_of Caps places = places.caps.items
spots_of Nets places = places.nets.items
spots_of Changes places = places.changes.items
