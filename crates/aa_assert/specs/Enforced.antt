-- Verdicts where rules are enforced.
-- Source: apparmor.d(5), "Profile flags"; own.
use Rattle.std.specs.Prelude.{◌≡◌, List, Bool, false, None, if◌then◌else◌}
use Rattle.std.specs.Option.{option_map_or}
use Rattle.aa_model.specs.declared.policy.Policy.{Policy}
use Rattle.aa_model.specs.declared.policy.Profile.{Profile}
use Rattle.aa_model.specs.declared.label.Label.{Label}
use Rattle.aa_model.specs.declared.request.Request.{Request}
use Rattle.aa_model.specs.declared.answer.Answer.{Answer}
use Rattle.aa_mediate.specs.Reply.{reply}
use Rattle.aa_command.specs.declared.decided.Decided.{Decided}
use Rattle.aa_ask.specs.Verdicts.{profile_at}
use Rattle.aa_ask.specs.Told.{Told, label_told, unfound, verdict_on}
use Rattle.aa_undecided.specs.Holding.{Tells}
use Rattle.aa_who.specs.Enforced.{AreEnforcing}

-- what is told of a request that complain mode alone grants, where it isn't granted: it changes neither label nor environment
abbrev pub refused_told : Request → Told → Told
refused_told r t = record t { granted = false; label = None; scrub = false; complain = false; unfound = unfound r false t.deciders t.lacking }

-- the verdict on a request of a task with that label, where rules are enforced
abbrev pub enforced : Request → Told → Told
enforced r t = if t.complain then refused_told r t else t

-- so of the verdict as it is
abbrev pub enforced_on : Decided → Label → Request → Told
enforced_on d l r = enforced r (verdict_on d l r)

-- the label's profile is in complain mode
abbrev pub complains_at : List Policy → Label → Bool
complains_at policies l = option_map_or (λ (p : Profile). p.complain) (profile_at policies l) false

-- ---- what they are

-- a verdict tells an answer: what it grants, and the label after, where it is another one
pub record TellsAnswer (ps : List Policy) (l : Label) (t : Told) (a : Answer) : Type 0 where
  pub tells : Tells t a
  pub label : t.label ≡ label_told ps l a.label

-- the verdict where rules are enforced tells the answer of such policies
abbrev pub EnforcedVerdicts : Type 0
EnforcedVerdicts = (d : Decided) (l : Label) (r : Request) (qs : List Policy) → AreEnforcing d.policies.now qs
    → TellsAnswer d.policies.now l (enforced_on d l r) (reply qs l r)
