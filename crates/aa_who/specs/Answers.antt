-- Who is granted what words ask.
-- Source: own.
use Rattle.std.specs.Prelude.{◌≡◌, ℕ, List, ◌∷◌, ◌++◌, Bool, Option}
use Rattle.std.specs.List.{AllZip}
use Rattle.aa_model.specs.declared.label.Label.TheVariants.{Unconfined}
use Rattle.aa_model.specs.declared.request.Request.{Request}
use Rattle.aa_command.specs.declared.decided.Decided.{Decided}
use Rattle.aa_quantifiers.specs.declared.word.Word.{Word}
use Rattle.aa_quantifiers.specs.Words.{IsOf}
use Rattle.aa_who.specs.declared.fault.Misread.{Misread}
use Rattle.aa_who.specs.declared.fault.WhoFault.{WhoFault}
use Rattle.aa_who.specs.declared.fault.WhoFault.TheVariants.{NoMemory, Refused}
use Rattle.aa_who.specs.declared.counting.Counted.{Counted}
use Rattle.aa_who.specs.declared.answering.WordAnswer.{WordAnswer}
use Rattle.aa_who.specs.Words.{IsRead, SaysMisread, IsMisreadLine, no_path}
use Rattle.aa_who.specs.Untold.{Untold}
use Rattle.aa_who.specs.Counts.{IsCounted, all_told, untold_of}
use Rattle.aa_who.specs.Grants.{Granted, AllGranted, all_granted, AreGrants}
use Rattle.aa_command.specs.Counts.{count_of}

-- who is granted what a word asks: which profiles, of how many, which at unclean paths alone, and whether a task without a profile is granted all of it; and the profiles
-- of which it can't be told, with the line on such a task where it can't be told of it
pub record Answered : Type 0 where
  pub word : List ℕ
  pub grants : List Granted
  pub apart : List Granted
  pub untold : List Untold
  pub profiles : ℕ
  pub is_free : Option Bool
  pub free_untold : List ℕ

-- the answer by what is told of the profiles and of a task without one
abbrev pub answered_by : List ℕ → ℕ → AllGranted → Counted → Answered
answered_by text profiles granted free =
    record { word = text; grants = granted.list; apart = granted.apart; untold = granted.untold; profiles = profiles; is_free = all_told free; free_untold = untold_of free }

-- an answer, without where it lies in memory
abbrev pub answered : WordAnswer → Answered
answered a = answered_by a.word.items a.profiles (all_granted a.grants) a.free

-- the answer to these requests of a word
pub record IsAnswerBy (d : Decided) (limit : ℕ) (unclean : Bool) (text : List ℕ) (w : Word) (a : Answered) : Type 0 where
  pub granted : AllGranted
  pub grants : AreGrants d limit unclean w text (count_of d.policies.now) granted
  pub free : Counted
  pub is_free : IsCounted d.policies.now limit (Unconfined 0) w text free
  pub answer : a ≡ answered_by text (count_of d.policies.now) granted free

-- the answer to a word
pub record IsAnswerTo (d : Decided) (limit : ℕ) (unclean : Bool) (text : List ℕ) (a : Answered) : Type 0 where
  pub asked : Word
  pub read : IsRead text asked
  pub by : IsAnswerBy d limit unclean text asked a

-- the answers to words, one by one
abbrev pub AreAnswers : Decided → ℕ → Bool → List (List ℕ) → List Answered → Type 0
AreAnswers d limit unclean texts answers = AllZip (IsAnswerTo d limit unclean) texts answers

-- why a word isn't answered: it is read as no requests, or as requests that nothing can ask
pub data IsNoAnswer (text line : List ℕ) : Type 0 where
  Unread : (e : Misread) → SaysMisread text e → IsMisreadLine text e line → IsNoAnswer text line
  Unasked : (w : Word) → IsRead text w → ((r : Request) → IsOf w r → ⊥) → line ≡ no_path text → IsNoAnswer text line

-- a refusal says why a word isn't answered, unless memory ran out
abbrev pub SaysNoAnswer : List ℕ → WhoFault → Type 0
SaysNoAnswer text NoMemory = Unit {0}
SaysNoAnswer text (Refused line) = IsNoAnswer text line.items

-- the first of the words that isn't answered, and why: those before it are
pub record IsFirstUnanswered (d : Decided) (limit : ℕ) (unclean : Bool) (texts : List (List ℕ)) (line : List ℕ) : Type 0 where
  pub earlier : List (List ℕ)
  pub text : List ℕ
  pub later : List (List ℕ)
  pub among : texts ≡ earlier ++ text ∷ later
  pub answers : List Answered
  pub before : AreAnswers d limit unclean earlier answers
  pub why : IsNoAnswer text line

-- a refusal says why the first of the words isn't answered that isn't, unless memory ran out
abbrev pub SaysFirst : Decided → ℕ → Bool → List (List ℕ) → WhoFault → Type 0
SaysFirst d limit unclean texts NoMemory = Unit {0}
SaysFirst d limit unclean texts (Refused line) = IsFirstUnanswered d limit unclean texts line.items
