-- A claim says by its first two words what is claimed.
use Rattle.std.proofs.Common.{◌≡◌, ℕ, ◌≤◌, List, [], ◌∷◌, length, get_or, codes, Bool, true, false, Option, Some, None, subst, arith}
use Rattle.std.specs.Prelude.{MatchBool}
use Rattle.aa_claims.specs.Forms.{is_word, is_reach, keyword_of}
use Rattle.aa_assert.specs.declared.part.Part.{Part}
use Rattle.aa_quantifiers.specs.declared.word.Word.{Word}
use Rattle.aa_claims.specs.declared.words.ClaimWord.{ClaimWord}
use Rattle.aa_assert.specs.declared.asked.Asked.{Asked}
use Rattle.aa_assert.specs.declared.asked.Asked.TheVariants.{Never, Leads, Always, Reaches, Enforced}
use Rattle.aa_who.specs.Words.{IsRead}
use Rattle.aa_assert.specs.Asked.{is_enforced, IsLedAsked, IsNeverAskedBy, IsNeverAsked, IsAlwaysAsked, IsAskedOf, IsAskedBy}
use Rattle.aa_assert.specs.Stating.{IsStatedBy, IsStatedOf}

pub by_two : (d : Part) (ws : List ClaimWord) (head asked : ClaimWord) (says : Asked) → 2 ≤ length ws
    → head ≡ get_or ws 0 head → asked ≡ get_or ws 1 asked → IsStatedBy d ws head asked says → IsStatedOf d ws asked says
by_two d [] head asked says long is_head is_asked h = absurd (omega (arith, long))
by_two d (v ∷ []) head asked says long is_head is_asked h = absurd (omega (arith, long))
by_two d (v ∷ w ∷ ws) head asked says long is_head is_asked h = (
  is_asked,
  subst (λ (x : ClaimWord). IsStatedBy d (v ∷ w ∷ ws) x w says) is_head
      (subst (λ (x : ClaimWord). IsStatedBy d (v ∷ w ∷ ws) head x says) is_asked h),
)

-- a claim on requests says of them what such a claim may
others : (d : Part) (ws : List ClaimWord) (v : Word) (a : Asked) → (IsNeverAskedBy None d ws v a → ⊥) → (IsLedAsked d ws v a → ⊥) → (IsAlwaysAsked v a → ⊥)
    → (b : Bool) → MatchBool b (IsNeverAsked d ws v a) (IsAlwaysAsked v a) → ⊥
others d ws v a none led always true n = of (keyword_of (codes "to") ws) n
  where
    of : (o : Option ClaimWord) → IsNeverAskedBy o d ws v a → ⊥
    of None n = none n
    of (Some to) n = led n
others d ws v a none led always false n = always n

-- what a claim says of the requests that its second word is read as
pub asked_by : (d : Part) (ws : List ClaimWord) (head asked : ClaimWord) (v : Word) (a : Asked) → is_enforced head asked ≡ false → is_reach head asked ≡ false → IsRead asked.text.items v
    → IsAskedOf d ws head v a → IsAskedBy d ws head asked a
asked_by d ws head asked v (Never w) e f read h = (e, f, (v, read, h))
asked_by d ws head asked v (Leads w ls) e f read h = (e, f, (v, read, h))
asked_by d ws head asked v (Always w) e f read h = (e, f, (v, read, h))
asked_by d ws head asked v (Reaches ls) e f read h = absurd (others d ws v (Reaches ls) (λ n. n) (λ n. n) (λ n. n) (is_word (codes "never") head) h)
asked_by d ws head asked v Enforced e f read h = absurd (others d ws v Enforced (λ n. n) (λ n. n) (λ n. n) (is_word (codes "never") head) h)
