-- What a claim says of requests.
-- Source: own.
use Rattle.std.specs.Prelude.{◌≡◌, ℕ, ◌==◌, ◌&&◌, not, List, [], ◌∷◌, ◌++◌, bit_and, codes, Bool, true, false, Option, Some, None, MatchBool, if◌then◌else◌}
use Rattle.std.specs.List.{list_any}
use Rattle.aa_base.specs.declared.perms.Perms.{Perms}
use Rattle.aa_compile.specs.Said.{perms_of}
use Rattle.aa_quantifiers.specs.declared.word.Word.{Word}
use Rattle.aa_quantifiers.specs.declared.word.Word.TheVariants.{Files, Execs, One}
use Rattle.aa_who.specs.Words.{IsRead}
use Rattle.aa_claims.specs.declared.words.ClaimWord.{ClaimWord}
use Rattle.aa_claims.specs.Forms.{is_word, is_reach, keyword_of}
use Rattle.aa_assert.specs.declared.part.Part.{Part}
use Rattle.aa_assert.specs.Leading.{AreLabels, may_lead}
use Rattle.aa_assert.specs.declared.asked.Asked.{Asked}
use Rattle.aa_assert.specs.declared.asked.Asked.TheVariants as claims

-- a letter, where it stands in one of the masks
abbrev pub letter_if : List Perms → ℕ → List Perms
letter_if masks letter = if list_any (λ (m : Perms). not (bit_and m.0 letter == 0)) masks then perms_of letter ∷ [] else []

-- the letters of masks, each alone: to read, to write, to append, to lock, to map
unfoldable pub letters_of : List Perms → List Perms
letters_of masks = letter_if masks 1 ++ letter_if masks 2 ++ letter_if masks 4 ++ letter_if masks 16 ++ letter_if masks 32

-- the same requests, but that each file is asked for by one letter
abbrev pub IsByLetters : Word → Word → Type 0
IsByLetters (Files w) (Files v) = (v.pattern ≡ w.pattern) × (v.masks ≡ letters_of w.masks) × (v.whose ≡ w.whose)
IsByLetters (Execs w) (Execs v) = v ≡ w
IsByLetters (One r) (One q) = q ≡ r
IsByLetters _ _ = ⊥

-- the claim that no profile complains
abbrev pub is_enforced : ClaimWord → ClaimWord → Bool
is_enforced head asked = is_word (codes "always") head && is_word (codes "enforced") asked

-- that none of the requests leads to a label that `to` names: they are executions, or a change of profile
abbrev pub IsLedAsked : Part → List ClaimWord → Word → Asked → Type 0
IsLedAsked d ws v (claims.Leads w ls) = (w ≡ v) × (may_lead v ≡ true) × AreLabels d.decided.policies.now ws ls
IsLedAsked d ws v _ = ⊥

-- that none is granted, by any letter; or, where `to` stands, that none leads there
abbrev pub IsNeverAskedBy : Option ClaimWord → Part → List ClaimWord → Word → Asked → Type 0
IsNeverAskedBy None d ws v (claims.Never w) = IsByLetters v w
IsNeverAskedBy None d ws v _ = ⊥
IsNeverAskedBy (Some to) d ws v a = IsLedAsked d ws v a

-- so by the clause `to`
abbrev pub IsNeverAsked : Part → List ClaimWord → Word → Asked → Type 0
IsNeverAsked d ws v a = IsNeverAskedBy (keyword_of (codes "to") ws) d ws v a

-- that each is granted
abbrev pub IsAlwaysAsked : Word → Asked → Type 0
IsAlwaysAsked v (claims.Always w) = w ≡ v
IsAlwaysAsked v _ = ⊥

-- what a claim of these words says of requests
abbrev pub IsAskedOf : Part → List ClaimWord → ClaimWord → Word → Asked → Type 0
IsAskedOf d ws head v a = MatchBool (is_word (codes "never") head) (IsNeverAsked d ws v a) (IsAlwaysAsked v a)

-- so, where its second word is read as these
abbrev pub IsAskedFor : Part → List ClaimWord → ClaimWord → ClaimWord → Asked → Type 0
IsAskedFor d ws head asked a = (is_enforced head asked ≡ false) × (is_reach head asked ≡ false) × ((v : Word) × IsRead asked.text.items v × IsAskedOf d ws head v a)

-- what a claim says of requests, or that a task never comes to the labels that `reach` names, or that no profile complains
abbrev pub IsAskedBy : Part → List ClaimWord → ClaimWord → ClaimWord → Asked → Type 0
IsAskedBy d ws head asked claims.Enforced = is_enforced head asked ≡ true
IsAskedBy d ws head asked (claims.Reaches ls) = (is_reach head asked ≡ true) × AreLabels d.decided.policies.now ws ls
IsAskedBy d ws head asked a = IsAskedFor d ws head asked a
