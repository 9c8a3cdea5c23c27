-- Whether a claim is broken at a label.
-- Source: own.
use Rattle.std.specs.Prelude.{ℕ, List}
use Rattle.aa_model.specs.declared.policy.Policy.{Policy}
use Rattle.aa_model.specs.declared.label.Label.{Label}
use Rattle.aa_model.specs.declared.request.Request.{Request}
use Rattle.aa_quantifiers.specs.declared.word.Word.{Word}
use Rattle.aa_quantifiers.specs.Words.{IsOf}
use Rattle.aa_quantifiers.specs.Quantities.{IsShortestOf}
use Rattle.aa_quantifiers.specs.declared.aim.First.{First}
use Rattle.aa_quantifiers.specs.declared.aim.First.TheVariants as first
use Rattle.aa_who.specs.declared.counting.Sought.{Sought}
use Rattle.aa_who.specs.declared.counting.Sought.TheVariants as sought
use Rattle.aa_who.specs.Counts.{CantTell}
use Rattle.aa_assert.specs.declared.judging.Judgement.{Judgement}
use Rattle.aa_assert.specs.declared.judging.Judgement.TheVariants.{Broken, Holds, Untold}

-- of some of the requests it is so: the claim that of none it is, is broken
abbrev pub IsBroken : Word → (Request → Type 0) → Type 0
IsBroken w Is = (r : Request) × IsOf w r × Is r

-- a claim that of no request of the word it is so: it is broken by a request, and no such request comes before it, at a clean path or with a
-- shorter one; or it holds, though the word asks something; or at the label that can't be told
abbrev pub IsJudged : List Policy → ℕ → Label → (Request → Type 0) → Word → List ℕ → Judgement → Type 0
IsJudged ps limit l Is w text (Broken r) = IsBroken w Is × IsShortestOf w Is r
IsJudged ps limit l Is w text (Holds r) = IsOf w r × (IsBroken w Is → ⊥)
IsJudged ps limit l Is w text (Untold line) = CantTell ps limit l w text line.items

-- so says what was found first
abbrev pub judged_by : First → Judgement
judged_by (first.Some r) = Broken r
judged_by (first.None r) = Holds r

-- or that it can't be told
abbrev pub judged_of : Sought → Judgement
judged_of (sought.Told f) = judged_by f
judged_of (sought.Untold line) = Untold line
