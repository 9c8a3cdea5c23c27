-- Why claims aren't answered, handed on.
use Rattle.std.proofs.Common.{◌≡◌, ℕ, zero, suc, ◌<◌, ◌≤◌, List, [], ◌∷◌, ◌++◌, length, take, drop, get_or, codes, true, false, Vec, ap, sym, subst, arith}
use Rattle.std.specs.declared.alloc.Global.{Global}
use Rattle.aa_assert.specs.declared.part.Part.{Part}
use Rattle.aa_who.specs.declared.fault.Misread.{Misread}
use Rattle.aa_who.specs.declared.fault.Misread.TheVariants as misread
use Rattle.aa_who.specs.Words.{IsRead, SaysMisread}
use Rattle.aa_claims.specs.declared.words.ClaimWord.{ClaimWord}
use Rattle.aa_claims.specs.declared.fault.Wrong.{Wrong}
use Rattle.aa_claims.specs.declared.fault.ClaimFault.{ClaimFault}
use Rattle.aa_claims.specs.declared.fault.ClaimFault.TheVariants.{NoMemory, At}
use Rattle.aa_claims.specs.Faults.{SaysAt}
use Rattle.aa_claims.specs.Forms.{is_word, is_reach, names_behind, names_within, names_led}
use Rattle.aa_quantifiers.specs.declared.word.Word.{Word}
use Rattle.aa_assert.specs.declared.asked.Asked.{Asked}
use Rattle.aa_assert.specs.Asked.{is_enforced, IsAskedBy}
use Rattle.aa_assert.specs.Scope.{AreSomebody, IsInScope}
use Rattle.aa_assert.specs.Breaking.{IsUnbreakable}
use Rattle.aa_assert.specs.Refused.{IsUnread, IsNoLead, IsNoLeadBehind, IsUnsaid, NotRead, NotLeading}
use Rattle.aa_assert.specs.Refused.{IsUnnamed, IsOutOfScope, NotNamed, NotExcepted, NotLed, IsUnstated, NotSaid, OfOthers, OfNothing, IsUnstatedOf}

pub says_more : (P Q : ℕ → Wrong → Type 0) (e : ClaimFault) → ((at : ℕ) (fault : Wrong) → P at fault → Q at fault) → SaysAt P e → SaysAt Q e
says_more P Q NoMemory f h = tt
says_more P Q (At at fault) f h = f at fault h

-- the words are those before one, the one, and those behind it
pub parted : {A : Type 0} (ws : List A) (i : ℕ) (w : A) → i < length ws → w ≡ get_or ws i w → ws ≡ take i ws ++ w ∷ drop (suc i) ws
parted [] i w lt item = absurd (omega (arith, lt))
parted (v ∷ ws) zero w lt item = ap (λ x. x ∷ ws) (sym item)
parted (v ∷ ws) (suc i) w lt item = ap (λ l. v ∷ l) (parted ws i w (omega (arith, lt)) item)

-- what says why one text is read as no requests says it of the same text
pub no_request_at : (text items : List ℕ) (e : Misread) (why : Vec ℕ Global) → e ≡ misread.NoRequest why → text ≡ items → SaysMisread text e
    → SaysMisread items (misread.NoRequest why)
no_request_at text items e why is same h =
    subst (λ (t : List ℕ). SaysMisread t (misread.NoRequest why)) same (subst (λ (x : Misread). SaysMisread text x) is h)

-- the word isn't read, where the claim isn't that no profile complains; or it leads nowhere
module _ (ws : List ClaimWord) (head asked : ClaimWord) (e : ClaimFault) where
  pub unread_of : is_enforced head asked ≡ false → is_reach head asked ≡ false → SaysAt (IsUnread asked) e → SaysAt (IsUnsaid ws head asked) e
  unread_of others here = says_more (IsUnread asked) (IsUnsaid ws head asked) e (λ at fault h. NotRead (others, here, h))

  pub no_lead_of : (w : Word) → IsRead asked.text.items w → SaysAt (IsNoLeadBehind head ws w) e → SaysAt (IsUnsaid ws head asked) e
  no_lead_of w read = says_more (IsNoLeadBehind head ws w) (IsUnsaid ws head asked) e (λ at fault h. NotLeading w read h)

  pub no_lead_behind : (w : Word) → is_word (codes "never") head ≡ true → SaysAt (IsNoLead ws w) e → SaysAt (IsNoLeadBehind head ws w) e
  no_lead_behind w never = says_more (IsNoLead ws w) (IsNoLeadBehind head ws w) e (λ at fault h. (never, h))

module _ (d : Part) (ws : List ClaimWord) (head : ClaimWord) (e : ClaimFault) where
  pub not_named : SaysAt (IsUnnamed d (names_within ws)) e → SaysAt (IsOutOfScope d ws head) e
  not_named = says_more (IsUnnamed d (names_within ws)) (IsOutOfScope d ws head) e (λ at fault h. NotNamed h)

  pub not_excepted : AreSomebody d (names_within ws) → SaysAt (IsUnnamed d (names_behind (codes "except") ws)) e
      → SaysAt (IsOutOfScope d ws head) e
  not_excepted within = says_more (IsUnnamed d (names_behind (codes "except") ws)) (IsOutOfScope d ws head) e (λ at fault h. NotExcepted within h)

  pub not_led : AreSomebody d (names_within ws) → AreSomebody d (names_behind (codes "except") ws)
      → SaysAt (IsUnnamed d (names_led ws)) e → SaysAt (IsOutOfScope d ws head) e
  not_led within excepted = says_more (IsUnnamed d (names_led ws)) (IsOutOfScope d ws head) e (λ at fault h. NotLed within excepted h)

module _ (d : Part) (ws : List ClaimWord) (head asked : ClaimWord) (e : ClaimFault) where
  pub not_said : SaysAt (IsUnsaid ws head asked) e → SaysAt (IsUnstated d ws head asked) e
  not_said = says_more (IsUnsaid ws head asked) (IsUnstated d ws head asked) e (λ at fault h. NotSaid h)

  pub of_others : (a : Asked) → IsAskedBy d ws head asked a → SaysAt (IsOutOfScope d ws head) e → SaysAt (IsUnstated d ws head asked) e
  of_others a is = says_more (IsOutOfScope d ws head) (IsUnstated d ws head asked) e (λ at fault h. OfOthers a is h)

  pub of_nothing : (a : Asked) → IsAskedBy d ws head asked a → IsInScope d ws → SaysAt (IsUnbreakable d ws asked a) e
      → SaysAt (IsUnstated d ws head asked) e
  of_nothing a is scope = says_more (IsUnbreakable d ws asked a) (IsUnstated d ws head asked) e (λ at fault h. OfNothing a is scope h)

-- a claim of two words at least states nothing for what is said of its first two
pub of_two : (d : Part) (ws : List ClaimWord) (head asked : ClaimWord) (at : ℕ) (fault : Wrong) → 2 ≤ length ws → head ≡ get_or ws 0 head
    → asked ≡ get_or ws 1 asked → IsUnstated d ws head asked at fault → IsUnstatedOf d ws at fault
of_two d [] head asked at fault long is_head is_asked h = absurd (omega (arith, long))
of_two d (v ∷ []) head asked at fault long is_head is_asked h = absurd (omega (arith, long))
of_two d (v ∷ w ∷ ws) head asked at fault long is_head is_asked h =
    subst (λ (x : ClaimWord). IsUnstated d (v ∷ w ∷ ws) x w at fault) is_head
    (subst (λ (x : ClaimWord). IsUnstated d (v ∷ w ∷ ws) head x at fault) is_asked h)
