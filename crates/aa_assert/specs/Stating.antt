-- What claims state, before any is answered.
-- Source: own.
use Rattle.std.specs.Prelude.{◌≡◌, ℕ, List, ◌∷◌, ◌++◌, None}
use Rattle.std.specs.List.{AllZip, AllByRecursion}
use Rattle.aa_claims.specs.declared.words.ClaimWord.{ClaimWord}
use Rattle.aa_claims.specs.declared.lines.ClaimLine.{ClaimLine}
use Rattle.aa_claims.specs.declared.fault.Wrong.{Wrong}
use Rattle.aa_assert.specs.declared.part.Part.{Part}
use Rattle.aa_assert.specs.declared.asked.Asked.{Asked}
use Rattle.aa_assert.specs.declared.stating.Stated.{Stated}
use Rattle.aa_assert.specs.Asked.{IsAskedBy}
use Rattle.aa_assert.specs.Scope.{IsInScope}
use Rattle.aa_assert.specs.Breaking.{unbreakable}
use Rattle.aa_assert.specs.Refused.{IsUnstatedOf}

-- a claim of these words, of which the first two are these, says that; each of its names names somebody, it is about somebody, and something
-- can break it
pub record IsStatedBy (d : Part) (ws : List ClaimWord) (head asked : ClaimWord) (says : Asked) : Type 0 where
  pub is_asked : IsAskedBy d ws head asked says
  pub scope : IsInScope d ws
  pub breakable : unbreakable d ws says ≡ None

-- the same of a claim by its words, of which that is the second
abbrev pub IsStatedOf : Part → List ClaimWord → ClaimWord → Asked → Type 0
IsStatedOf d (head ∷ asked ∷ rest) word says = (word ≡ asked) × IsStatedBy d (head ∷ asked ∷ rest) head asked says
IsStatedOf d _ word says = ⊥

-- what the claim on a line states
pub record IsStated (d : Part) (l : ClaimLine) (s : Stated) : Type 0 where
  pub line_is : s.line.now ≡ l
  pub is : IsStatedOf d l.words.items s.word.now s.asked

-- what claims state, one by one
abbrev pub AreStated : Part → List ClaimLine → List Stated → Type 0
AreStated d claims all = AllZip (IsStated d) claims all

-- the claim on a line states something
abbrev pub States : Part → ClaimLine → Type 0
States d l = (word : ClaimWord) × ((says : Asked) × IsStatedOf d l.words.items word says)

-- the first of the claims that states nothing, and why
pub record IsFirstUnstated (d : Part) (claims : List ClaimLine) (at : ℕ) (fault : Wrong) : Type 0 where
  pub earlier : List ClaimLine
  pub claim : ClaimLine
  pub later : List ClaimLine
  pub among : claims ≡ earlier ++ claim ∷ later
  pub before : AllByRecursion (States d) earlier
  pub why : IsUnstatedOf d claim.words.items at fault
