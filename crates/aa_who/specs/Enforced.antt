-- The policies whose complain flags are cleared: what the rules allow, and what `who` counts of it, is what they grant.
-- Source: apparmor.d(5), "Profile flags"; own.
use Rattle.std.specs.Prelude.{◌≡◌, ℕ, List, map, false}
use Rattle.aa_model.specs.declared.policy.Policy.{Policy}
use Rattle.aa_model.specs.declared.policy.Profile.{Profile}
use Rattle.aa_model.specs.declared.label.Label.{Label}
use Rattle.aa_model.specs.declared.request.Request.{Request}
use Rattle.aa_mediate.specs.Reply.{reply}
use Rattle.aa_quantifiers.specs.declared.word.Word.{Word}
use Rattle.aa_quantifiers.specs.Quantities.{grants}
use Rattle.aa_who.specs.declared.counting.Counted.{Counted}
use Rattle.aa_who.specs.Counts.{IsCounted}

-- the profile without its complain flag
abbrev pub enforcing : Profile → Profile
enforcing p = record p { complain = false }

-- these policies have the profiles of those without their complain flags: all else of them is the same
abbrev pub AreEnforcing : List Policy → List Policy → Type 0
AreEnforcing ps qs = map (λ (q : Policy). q.profiles) qs ≡ map (λ (p : Policy). map enforcing p.profiles) ps

-- there are such policies
abbrev pub ThereAreEnforcing : Type 0
ThereAreEnforcing = (ps : List Policy) → (qs : List Policy) × AreEnforcing ps qs

-- the rules allow a request at a label exactly where such policies grant it, and these grant nothing by complain mode alone
abbrev pub RulesEnforced : Type 0
RulesEnforced = (ps qs : List Policy) → AreEnforcing ps qs → (l : Label) (r : Request)
    → (grants (reply ps l r) ≡ (reply qs l r).granted) × (grants (reply qs l r) ≡ (reply qs l r).granted)

-- what is counted of a word's requests at a label is so by such policies, and why it can't be told is why by them
abbrev pub CountsEnforced : Type 0
CountsEnforced = (ps qs : List Policy) → AreEnforcing ps qs → (limit : ℕ) (l : Label) (w : Word) (text : List ℕ) (c : Counted)
    → IsCounted ps limit l w text c → IsCounted qs limit l w text c
