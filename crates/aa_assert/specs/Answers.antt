-- By whom claims are broken.
-- Source: own.
use Rattle.std.specs.Prelude.{◌≡◌, ℕ, List, ◌∷◌, ◌++◌, Bool, None}
use Rattle.std.specs.List.{AllZip, AllByRecursion}
use Rattle.aa_claims.specs.declared.words.ClaimWord.{ClaimWord}
use Rattle.aa_claims.specs.declared.lines.ClaimLine.{ClaimLine}
use Rattle.aa_claims.specs.declared.fault.Wrong.{Wrong}
use Rattle.aa_assert.specs.declared.part.Part.{Part}
use Rattle.aa_assert.specs.declared.asked.Asked.{Asked}
use Rattle.aa_assert.specs.declared.answering.Answer.{Answer}
use Rattle.aa_assert.specs.declared.kind.Kind.{Kind}
use Rattle.aa_assert.specs.Kinds.{kind_of}
use Rattle.aa_assert.specs.Asked.{IsAskedBy}
use Rattle.aa_assert.specs.Scope.{IsInScope}
use Rattle.aa_assert.specs.Breaking.{unbreakable}
use Rattle.aa_assert.specs.Findings.{AllFound, all_found, AreFound}
use Rattle.aa_assert.specs.Refused.{AsksNoPath}
use Rattle.aa_assert.specs.declared.stating.Stated.{Stated}
use Rattle.aa_assert.specs.Stating.{IsStatedBy, States, IsFirstUnstated}

-- by whom the claim on the line of that number is broken, and of what kind it is
pub record Answered : Type 0 where
  pub number : ℕ
  pub kind : Kind
  pub found : AllFound

-- an answer, without where it lies in memory
abbrev pub answered : Answer → Answered
answered a = record { number = a.number; kind = a.kind; found = all_found a.findings }

-- the answer to a claim of these words, of which the first two are these: each of its names names somebody, it is about somebody, and something
-- can break it
pub record IsAnswerBy (first : Bool) (d : Part) (limit : ℕ) (ws : List ClaimWord) (head asked : ClaimWord) (found : AllFound) : Type 0 where
  pub says : Asked
  pub is_asked : IsAskedBy d ws head asked says
  pub scope : IsInScope d ws
  pub breakable : unbreakable d ws says ≡ None
  pub are : AreFound first d limit ws says asked.text.items found

-- the same of a claim by its words
abbrev pub IsAnswerOf : Bool → Part → ℕ → List ClaimWord → AllFound → Type 0
IsAnswerOf first d limit (head ∷ asked ∷ rest) found = IsAnswerBy first d limit (head ∷ asked ∷ rest) head asked found
IsAnswerOf first d limit _ found = ⊥

-- the answer to the claim on a line
pub record IsAnswerTo (first : Bool) (d : Part) (limit : ℕ) (l : ClaimLine) (a : Answered) : Type 0 where
  pub number_is : a.number ≡ l.number
  pub kind_is : a.kind ≡ kind_of l.words.items
  pub is : IsAnswerOf first d limit l.words.items a.found

-- the answers to claims, one by one
abbrev pub AreAnswers : Bool → Part → ℕ → List ClaimLine → List Answered → Type 0
AreAnswers first d limit claims answers = AllZip (IsAnswerTo first d limit) claims answers

-- the answer to what a claim states
pub record IsAnswerAs (first : Bool) (d : Part) (limit : ℕ) (s : Stated) (a : Answered) : Type 0 where
  pub number_is : a.number ≡ s.line.now.number
  pub kind_is : a.kind ≡ kind_of s.line.now.words.items
  pub are : AreFound first d limit s.line.now.words.items s.asked s.word.now.text.items a.found

-- one by one
abbrev pub AreAnswersAs : Bool → Part → ℕ → List Stated → List Answered → Type 0
AreAnswersAs first d limit all answers = AllZip (IsAnswerAs first d limit) all answers

-- the first of what claims state that asks nothing: what is before it is answered
pub record IsFirstEmpty (first : Bool) (d : Part) (limit : ℕ) (all : List Stated) (at : ℕ) (fault : Wrong) : Type 0 where
  pub earlier : List Stated
  pub one : Stated
  pub later : List Stated
  pub among : all ≡ earlier ++ one ∷ later
  pub answers : List Answered
  pub before : AreAnswersAs first d limit earlier answers
  pub why : AsksNoPath one.word.now one.asked at fault

-- a claim of these words states something, and nothing can be asked
abbrev pub IsOnNothing : Part → List ClaimWord → ℕ → Wrong → Type 0
IsOnNothing d (head ∷ asked ∷ rest) at fault = (says : Asked) × IsStatedBy d (head ∷ asked ∷ rest) head asked says × AsksNoPath asked says at fault
IsOnNothing d _ at fault = ⊥

-- all claims state something, and this is the first on which nothing can be asked: those before it are answered
pub record IsFirstOnNothing (first : Bool) (d : Part) (limit : ℕ) (claims : List ClaimLine) (at : ℕ) (fault : Wrong) : Type 0 where
  pub state : AllByRecursion (States d) claims
  pub earlier : List ClaimLine
  pub claim : ClaimLine
  pub later : List ClaimLine
  pub among : claims ≡ earlier ++ claim ∷ later
  pub answers : List Answered
  pub before : AreAnswers first d limit earlier answers
  pub why : IsOnNothing d claim.words.items at fault

-- why claims aren't answered: before any is answered, the first that states nothing; or else the first on which nothing can be asked
pub data IsFirstUnanswered (first : Bool) (d : Part) (limit : ℕ) (claims : List ClaimLine) (at : ℕ) (fault : Wrong) : Type 0 where
  Unstated : IsFirstUnstated d claims at fault → IsFirstUnanswered first d limit claims at fault
  OnNothing : IsFirstOnNothing first d limit claims at fault → IsFirstUnanswered first d limit claims at fault
