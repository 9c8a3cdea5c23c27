-- What was found first tells whether a claim is broken.
use Rattle.std.proofs.Common.{ℕ, List, refl}
use Rattle.aa_model.specs.declared.policy.Policy.{Policy}
use Rattle.aa_model.specs.declared.label.Label.{Label}
use Rattle.aa_quantifiers.specs.declared.aim.Aim.{Aim}
use Rattle.aa_quantifiers.specs.declared.aim.First.{First}
use Rattle.aa_quantifiers.specs.declared.aim.First.TheVariants as first
use Rattle.aa_quantifiers.specs.declared.word.Word.{Word}
use Rattle.aa_quantifiers.specs.Aims.{IsMet, IsFirst}
use Rattle.aa_who.specs.declared.counting.Sought.{Sought}
use Rattle.aa_who.specs.declared.counting.Sought.TheVariants as sought
use Rattle.aa_who.specs.declared.fault.WhoFault.{WhoFault}
use Rattle.aa_who.specs.declared.fault.WhoFault.TheVariants as who
use Rattle.aa_who.specs.Counts.{IsSought, SaysNoPath}
use Rattle.aa_claims.specs.declared.words.ClaimWord.{ClaimWord}
use Rattle.aa_claims.specs.Faults.{SaysAt}
use Rattle.aa_assert.specs.Judging.{IsJudged, judged_by, judged_of}
use Rattle.aa_assert.specs.Refused.{fault_of, IsNoPath}

module _ (ps : List Policy) (limit : ℕ) (l : Label) (w : Word) (text : List ℕ) (aim : Aim) where
  first_judged : (f : First) → IsFirst ps l w aim f → IsJudged ps limit l (IsMet ps l aim) w text (judged_by f)
  first_judged (first.Some r) h = ((r, h.is, h.answer), h)
  first_judged (first.None r) h = (h.0, λ b. h.1 b.0 b.1 b.2)

  pub sought_judged : (s : Sought) → IsSought ps limit l w aim text s → IsJudged ps limit l (IsMet ps l aim) w text (judged_of s)
  sought_judged (sought.Told f) h = first_judged f h
  sought_judged (sought.Untold line) h = h

-- a word that asks nothing is told at the word
pub no_path_at : (asked : ClaimWord) (w : Word) (text : List ℕ) (e : WhoFault) → SaysNoPath w text e → SaysAt (IsNoPath asked w) (fault_of asked.at e)
no_path_at asked w text who.NoMemory h = tt
no_path_at asked w text (who.Refused line) h = (refl, refl, h.0)
