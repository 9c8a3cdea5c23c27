-- Why a claim isn't answered.
-- Source: own.
use Rattle.std.specs.Prelude.{◌≡◌, ℕ, List, ◌∷◌, codes, Option, Some, true, false}
use Rattle.aa_model.specs.declared.request.Request.{Request}
use Rattle.aa_quantifiers.specs.declared.word.Word.{Word}
use Rattle.aa_quantifiers.specs.Words.{IsOf}
use Rattle.aa_who.specs.Words.{IsRead, SaysMisread}
use Rattle.aa_who.specs.declared.fault.Misread.TheVariants as misread
use Rattle.aa_who.specs.declared.fault.WhoFault.{WhoFault}
use Rattle.aa_who.specs.declared.fault.WhoFault.TheVariants as who
use Rattle.aa_claims.specs.declared.words.ClaimWord.{ClaimWord}
use Rattle.aa_claims.specs.declared.fault.Wrong.{Wrong}
use Rattle.aa_claims.specs.declared.fault.Wrong.TheVariants.{NoRequest, NoPattern, NoLead, NoProfile, NoPath, Nobody}
use Rattle.aa_claims.specs.declared.fault.ClaimFault.{ClaimFault}
use Rattle.aa_claims.specs.declared.fault.ClaimFault.TheVariants as claims
use Rattle.aa_claims.specs.Forms.{is_word, is_reach, keyword_of, names_behind, names_within, names_led}
use Rattle.aa_assert.specs.Leading.{may_lead}
use Rattle.aa_assert.specs.declared.part.Part.{Part}
use Rattle.aa_assert.specs.declared.asked.Asked.{Asked}
use Rattle.aa_assert.specs.declared.asked.Asked.TheVariants.{Never, Leads, Always, Reaches, Enforced}
use Rattle.aa_assert.specs.Asked.{is_enforced, IsAskedBy}
use Rattle.aa_assert.specs.Scope.{is_about_some, AreSomebody, NamesNobody, IsInScope}
use Rattle.aa_assert.specs.Breaking.{IsUnbreakable}

-- by why its word isn't answered
abbrev pub fault_of : ℕ → WhoFault → ClaimFault
fault_of at who.NoMemory = claims.NoMemory
fault_of at (who.Refused line) = claims.At at NoPath

-- at the word that says what is claimed: it asks nothing
abbrev pub IsNoPath : ClaimWord → Word → ℕ → Wrong → Type 0
IsNoPath asked w at fault = (at ≡ asked.at) × (fault ≡ NoPath) × ((r : Request) → IsOf w r → ⊥)

-- so of what the claim says
abbrev pub AsksNoPath : ClaimWord → Asked → ℕ → Wrong → Type 0
AsksNoPath asked (Never w) = IsNoPath asked w
AsksNoPath asked (Leads w ls) = IsNoPath asked w
AsksNoPath asked (Always w) = IsNoPath asked w
AsksNoPath asked (Reaches ls) = λ at fault. ⊥
AsksNoPath asked Enforced = λ at fault. ⊥

-- a text is read as no requests, and this says why
abbrev pub IsWhyUnread : List ℕ → Wrong → Type 0
IsWhyUnread text (NoRequest why) = SaysMisread text (misread.NoRequest why)
IsWhyUnread text NoPattern = SaysMisread text misread.NoPattern
IsWhyUnread text _ = ⊥

-- at that word: it is no word of requests, and this is why
abbrev pub IsUnread : ClaimWord → ℕ → Wrong → Type 0
IsUnread asked at fault = (at ≡ asked.at) × IsWhyUnread asked.text.items fault

-- so, and the claim is one on requests
abbrev pub IsNoRequest : ClaimWord → ClaimWord → ℕ → Wrong → Type 0
IsNoRequest head asked at fault = (is_enforced head asked ≡ false) × (is_reach head asked ≡ false) × IsUnread asked at fault

-- at `to`: the claim's requests are neither executions nor a change of profile
abbrev pub IsNoLead : List ClaimWord → Word → ℕ → Wrong → Type 0
IsNoLead ws w at fault = (fault ≡ NoLead) × (may_lead w ≡ false) × ((to : ClaimWord) × (keyword_of (codes "to") ws ≡ Some to) × (at ≡ to.at))

-- so where the claim begins with never
abbrev pub IsNoLeadBehind : ClaimWord → List ClaimWord → Word → ℕ → Wrong → Type 0
IsNoLeadBehind head ws w at fault = (is_word (codes "never") head ≡ true) × IsNoLead ws w at fault

-- why it isn't said what is claimed: the second word is no word of requests, or `to` stands behind others than lead anywhere
pub data IsUnsaid (ws : List ClaimWord) (head asked : ClaimWord) (at : ℕ) (fault : Wrong) : Type 0 where
  NotRead : IsNoRequest head asked at fault → IsUnsaid ws head asked at fault
  NotLeading : (w : Word) → IsRead asked.text.items w → IsNoLeadBehind head ws w at fault → IsUnsaid ws head asked at fault

-- at the first of these names that names nobody, if they stand there
abbrev pub IsUnnamed : Part → Option (List ClaimWord) → ℕ → Wrong → Type 0
IsUnnamed d names at fault = (fault ≡ NoProfile) × NamesNobody d names at

-- why a claim is about nobody who is there: a name of `in` or `from` names nobody, or else one of `except`, or one of `to` or
-- `reach`, or else it is about nobody
pub data IsOutOfScope (d : Part) (ws : List ClaimWord) (head : ClaimWord) (at : ℕ) (fault : Wrong) : Type 0 where
  NotNamed : IsUnnamed d (names_within ws) at fault → IsOutOfScope d ws head at fault
  NotExcepted : AreSomebody d (names_within ws) → IsUnnamed d (names_behind (codes "except") ws) at fault → IsOutOfScope d ws head at fault
  NotLed : AreSomebody d (names_within ws) → AreSomebody d (names_behind (codes "except") ws) → IsUnnamed d (names_led ws) at fault
      → IsOutOfScope d ws head at fault
  OfNobody : AreSomebody d (names_within ws) → AreSomebody d (names_behind (codes "except") ws)
      → AreSomebody d (names_led ws) → at ≡ head.at → fault ≡ Nobody → is_about_some d ws ≡ false → IsOutOfScope d ws head at fault

-- why a claim of these words states nothing: it doesn't say what is claimed, or else it is about nobody who is there, or else nothing can break it
pub data IsUnstated (d : Part) (ws : List ClaimWord) (head asked : ClaimWord) (at : ℕ) (fault : Wrong) : Type 0 where
  NotSaid : IsUnsaid ws head asked at fault → IsUnstated d ws head asked at fault
  OfOthers : (a : Asked) → IsAskedBy d ws head asked a → IsOutOfScope d ws head at fault → IsUnstated d ws head asked at fault
  OfNothing : (a : Asked) → IsAskedBy d ws head asked a → IsInScope d ws → IsUnbreakable d ws asked a at fault → IsUnstated d ws head asked at fault

-- the same of a claim by its words
abbrev pub IsUnstatedOf : Part → List ClaimWord → ℕ → Wrong → Type 0
IsUnstatedOf d (head ∷ asked ∷ rest) at fault = IsUnstated d (head ∷ asked ∷ rest) head asked at fault
IsUnstatedOf d _ at fault = ⊥
