-- The claims of a text.
-- Source: own.
use Rattle.std.specs.Prelude.{◌≡◌, ℕ, ◌+◌, ◌<◌, ◌≤◌, List, [], ◌∷◌, ◌++◌, length, map, flat_map, take, drop, Vec}
use Rattle.std.specs.declared.alloc.Global.{Global}
use Rattle.aa_text.specs.Places.{is_line_end}
use Rattle.aa_claims.specs.declared.words.ClaimWord.{ClaimWord}
use Rattle.aa_claims.specs.declared.lines.ClaimLine.{ClaimLine}
use Rattle.aa_claims.specs.declared.fault.Wrong.{Wrong}
use Rattle.aa_claims.specs.declared.fault.Wrong.TheVariants.{Open, TooMany}
use Rattle.aa_claims.specs.declared.fault.ClaimFault.{ClaimFault}
use Rattle.aa_claims.specs.Words.{count_before, word_data, AreWords, IsOpenAt}
use Rattle.aa_claims.specs.Forms.{AreRight, IsFirstWrong}
use Rattle.aa_claims.specs.Faults.{SaysAt}

-- where the line ends that begins at a byte
abbrev pub end_of_line : List ℕ → ℕ → ℕ
end_of_line text start = start + count_before is_line_end (drop start text)

-- these are the words of a text from a place on, and nothing is wrong with them
pub record AreRightWords (text : List ℕ) (start : ℕ) (words : List ClaimWord) : Type 0 where
  pub words_are : AreWords text start (map word_data words)
  pub right : AreRight words (length words)

-- the line of that number, which begins there
pub record IsLine (text : List ℕ) (number start : ℕ) (l : ClaimLine) : Type 0 where
  pub number_is : l.number ≡ number
  pub words : AreRightWords (take (end_of_line text start) text) start l.words.items

-- these lines stand one behind another, from one byte to another; the first has that number
abbrev pub AreLines : List ℕ → ℕ → ℕ → List ClaimLine → ℕ → Type 0
AreLines text number from [] to = from ≡ to
AreLines text number from (l ∷ ls) to = IsLine text number from l × AreLines text (number + 1) (end_of_line text from + 1) ls to

-- a line with words is a claim
abbrev pub claim_by : ClaimLine → List ClaimWord → List ClaimLine
claim_by l [] = []
claim_by l (w ∷ ws) = l ∷ []

-- the claim that a line is, if it is one
abbrev pub claim_of : ClaimLine → List ClaimLine
claim_of l = claim_by l l.words.items

-- these are the claims of the lines before a byte, behind which the line of that number stands
pub record AreClaimsUpTo (text : List ℕ) (claims : List ClaimLine) (number to : ℕ) : Type 0 where
  pub lines : List ClaimLine
  pub many : number ≡ length lines + 1
  pub are : AreLines text 1 0 lines to
  pub claims_are : claims ≡ flat_map claim_of lines

-- the claims of a text: of all its lines, and at most 65,536
pub record AreClaims (text : List ℕ) (claims : List ClaimLine) : Type 0 where
  pub number : ℕ
  pub to : ℕ
  pub up_to : AreClaimsUpTo text claims number to
  pub ends : length text < to
  pub few : length claims ≤ 65536

-- why a line is no claim, at a place: a quote is open, or something is wrong with a word
pub data IsWrong (text : List ℕ) (start at : ℕ) (fault : Wrong) : Type 0 where
  Opens : fault ≡ Open → IsOpenAt text start at → IsWrong text start at fault
  Forms : (words : List ClaimWord) → AreWords text start (map word_data words) → IsFirstWrong words at fault → IsWrong text start at fault

-- why a line isn't answered behind so many claims: it is none, or it is one too many, which is told at its first word
pub data IsLineFault (text : List ℕ) (start earlier at : ℕ) (fault : Wrong) : Type 0 where
  NoClaim : IsWrong text start at fault → IsLineFault text start earlier at fault
  OneMore : (first : ClaimWord) (more : List ClaimWord) → AreRightWords text start (first ∷ more) → at ≡ first.at → fault ≡ TooMany → 65536 ≤ earlier
      → IsLineFault text start earlier at fault

-- why a text is no claims: it holds, behind others, a line that is none
pub record IsFirstFault (text : List ℕ) (at : ℕ) (fault : Wrong) : Type 0 where
  pub claims : List ClaimLine
  pub number : ℕ
  pub start : ℕ
  pub up_to : AreClaimsUpTo text claims number start
  pub why : IsLineFault (take (end_of_line text start) text) start (length claims) at fault

-- so says a refusal, unless memory ran out
abbrev pub SaysFault : List ℕ → ClaimFault → Type 0
SaysFault text e = SaysAt (IsFirstFault text) e

-- the claim of a line is added, if it is one
pub record Adds (text : List ℕ) (number start : ℕ) (old new : List ClaimLine) : Type 0 where
  pub words : Vec ClaimWord Global
  pub right : AreRightWords text start words.items
  pub are : new ≡ old ++ claim_of (record { number = number; words = words })
