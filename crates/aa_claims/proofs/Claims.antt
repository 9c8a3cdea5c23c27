-- Claims of lines that stand one behind another.
use Rattle.std.proofs.Common.{◌≡◌, ◌+◌, ◌<◌, ◌≤◌, ℕ, List, [], ◌∷◌, ◌++◌, length, map, take, get_or, refl, sym, subst, ap, ◌∙◌, arith, Vec, Result, Ok, Err}
use Rattle.std.specs.Prelude.{flat_map, IfErr}
use Rattle.std.specs.Result.{IsErrAnd}
use Rattle.std.specs.declared.alloc.Global.{Global}
use Rattle.std.proofs.lemmas.List.{length-append, append-nil}
use Rattle.std.proofs.lemmas.Grind.{flat_map-append}
use Rattle.aa_claims.specs.declared.words.ClaimWord.{ClaimWord}
use Rattle.aa_claims.specs.declared.lines.ClaimLine.{ClaimLine}
use Rattle.aa_claims.specs.declared.fault.Wrong.TheVariants.{TooMany}
use Rattle.aa_claims.specs.declared.fault.ClaimFault.{ClaimFault}
use Rattle.aa_claims.specs.declared.fault.ClaimFault.TheVariants.{NoMemory, At}
use Rattle.aa_claims.specs.Faults.{SaysAt}
use Rattle.aa_claims.specs.Lines.{AreRightWords, IsLine, AreLines, end_of_line, claim_by, claim_of, AreClaimsUpTo, IsWrong, IsLineFault, NoClaim, OneMore, Adds}

no_claim : (l : ClaimLine) (ws : List ClaimWord) → length ws ≡ 0 → claim_by l ws ≡ []
no_claim l [] e = refl
no_claim l (w ∷ ws) e = absurd (omega (arith, e))

one_claim : (l : ClaimLine) (ws : List ClaimWord) → 0 < length ws → claim_by l ws ≡ l ∷ []
one_claim l [] h = absurd (omega (arith, h))
one_claim l (w ∷ ws) h = refl

-- a line without words adds nothing
pub adds_none : (text : List ℕ) (number start : ℕ) (old : List ClaimLine) (ws : Vec ClaimWord Global) → AreRightWords text start ws.items → length ws.items ≡ 0
    → Adds text number start old old
adds_none text number start old ws right e = record {
  words = ws;
  right = right;
  are = sym (ap (λ (x : List ClaimLine). old ++ x) (no_claim (record { number = number; words = ws }) ws.items e) ∙ append-nil old);
}

-- one with words adds itself
pub adds_one : (text : List ℕ) (number start : ℕ) (old new : List ClaimLine) (ws : Vec ClaimWord Global) → AreRightWords text start ws.items → 0 < length ws.items
    → new ≡ old ++ record { number = number; words = ws } ∷ [] → Adds text number start old new
adds_one text number start old new ws right h e = record {
  words = ws;
  right = right;
  are = e ∙ sym (ap (λ (x : List ClaimLine). old ++ x) (one_claim (record { number = number; words = ws }) ws.items h));
}

-- what is wrong with a line is why it is none
pub line_fault : (text : List ℕ) (start earlier : ℕ) (e : ClaimFault) → SaysAt (IsWrong text start) e → SaysAt (IsLineFault text start earlier) e
line_fault text start earlier NoMemory h = tt
line_fault text start earlier (At at fault) h = NoClaim h

-- a claim too many is told at its first word
pub one_more : (text : List ℕ) (start earlier : ℕ) (ws : List ClaimWord) (first : ClaimWord) → AreRightWords text start ws → 0 < length ws
    → first ≡ get_or ws 0 first → 65536 ≤ earlier → IsLineFault text start earlier first.at TooMany
one_more text start earlier [] first right some is many = absurd (omega (arith, some))
one_more text start earlier (w ∷ ws) first right some is many = OneMore w ws right (ap (λ (x : ClaimWord). x.at) is) refl many

pub handed_on : {T : Type 0} (r : Result T ClaimFault) (P Q : ClaimFault → Type 0) → IsErrAnd r P → ((y : ClaimFault) → P y → Q y) → IfErr r Q
handed_on (Ok t) P Q a h = tt
handed_on (Err e) P Q a h = h e a

lines_append : (text : List ℕ) (n a : ℕ) (ls : List ClaimLine) (b : ℕ) (l : ClaimLine) (number : ℕ) → AreLines text n a ls b → number ≡ length ls + n
    → IsLine text number b l → AreLines text n a (ls ++ l ∷ []) (end_of_line text b + 1)
lines_append text n a [] b l number e many is =
    (subst (λ (x : ℕ). IsLine text n x l) (sym e) (subst (λ (k : ℕ). IsLine text k b l) (omega (arith, many)) is), ap (λ (x : ℕ). end_of_line text x + 1) e)
lines_append text n a (k ∷ ls) b l number h many is =
    (h.0, lines_append text (n + 1) (end_of_line text a + 1) ls b l number h.1 (omega (arith, many)) is)

-- the claims up to the next line
pub claims_more : (text : List ℕ) (old new : List ClaimLine) (number start end : ℕ) → end ≡ end_of_line text start
    → Adds (take end text) number start old new → AreClaimsUpTo text old number start → AreClaimsUpTo text new (number + 1) (end + 1)
claims_more text old new number start end e adds up =
    let l : ClaimLine = record { number = number; words = adds.words } in
    let many : length (up.lines ++ l ∷ []) ≡ length up.lines + 1 = length-append up.lines (l ∷ []) in
    let is : IsLine text number start l = record { number_is = refl; words = subst (λ (x : ℕ). AreRightWords (take x text) start adds.words.items) e adds.right } in
    let joined : flat_map claim_of (up.lines ++ l ∷ []) ≡ flat_map claim_of up.lines ++ claim_of l =
    flat_map-append claim_of up.lines (l ∷ []) ∙ ap (λ (x : List ClaimLine). flat_map claim_of up.lines ++ x) (append-nil (claim_of l)) in
    record {
      lines = up.lines ++ l ∷ [];
      many = omega (arith, many, up.many);
      are = subst (λ (x : ℕ). AreLines text 1 0 (up.lines ++ l ∷ []) (x + 1)) (sym e) (lines_append text 1 0 up.lines start l number up.are up.many is);
      claims_are = adds.are ∙ ap (λ (x : List ClaimLine). x ++ claim_of l) up.claims_are ∙ sym joined;
    }
