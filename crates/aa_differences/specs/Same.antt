-- Labels and answers that are the same in two lists of policies.
-- Source: own.
use Rattle.std.specs.Prelude.{◌≡◌, ℕ, List, [], ◌∷◌, Option, option_map}
use Rattle.aa_model.specs.declared.policy.Policy.{Policy}
use Rattle.aa_model.specs.declared.policy.Profile.{Profile}
use Rattle.aa_model.specs.declared.label.Label.{Label}
use Rattle.aa_model.specs.declared.label.Label.TheVariants.{Unconfined, Confined}
use Rattle.aa_model.specs.declared.request.Request.{Request}
use Rattle.aa_model.specs.declared.answer.Answer.{Answer}
use Rattle.aa_machine.specs.Run.{replies}
use Rattle.aa_compile.specs.Labels.{profile_in}
use Rattle.aa_mediate.specs.Reply.{reply}
use Rattle.aa_representatives.specs.Askable.{IsAskable}

-- the full name of a profile, if it is there
abbrev pub name_of : Option Profile → Option (List ℕ)
name_of o = option_map (λ (p : Profile). p.name) o

-- two labels that are called the same: of policies of one number, and both of none or of profiles of one full name; profiles that aren't there have none
abbrev pub SameLabel : List Policy → List Policy → Label → Label → Type 0
SameLabel ps qs (Unconfined k) (Unconfined j) = k ≡ j
SameLabel ps qs (Confined k n) (Confined j m) = (k ≡ j) × (name_of (profile_in ps k n) ≡ name_of (profile_in qs j m))
SameLabel ps qs _ _ = ⊥

-- answers that a task can't tell apart: the labels are called the same, all else is equal
pub record SameAnswer (ps qs : List Policy) (a b : Answer) : Type 0 where
  pub granted : a.granted ≡ b.granted
  pub scrub : a.scrub ≡ b.scrub
  pub note : a.note ≡ b.note
  pub label : SameLabel ps qs a.label b.label

-- the request is answered the same at the two labels
abbrev pub AnsweredAlike : List Policy → List Policy → Label → Label → Request → Type 0
AnsweredAlike ps qs l m r = SameAnswer ps qs (reply ps l r) (reply qs m r)

-- so is each that can be asked, at all labels that are called the same
abbrev pub SamePolicies : List Policy → List Policy → Type 0
SamePolicies ps qs = (l m : Label) → SameLabel ps qs l m → (r : Request) → IsAskable r → AnsweredAlike ps qs l m r

-- the answers are the same one by one
abbrev pub SameAnswers : List Policy → List Policy → List Answer → List Answer → Type 0
SameAnswers ps qs [] [] = Unit {0}
SameAnswers ps qs (a ∷ as') (b ∷ bs) = SameAnswer ps qs a b × SameAnswers ps qs as' bs
SameAnswers ps qs _ _ = ⊥

-- the answers of a task to a list of requests, one after another, each of which may move its label
abbrev pub answers_to : List Policy → Label → List Request → List Answer
answers_to ps l rs = replies (λ (label : Label) (r : Request). (reply ps label r).label) (reply ps) l rs
