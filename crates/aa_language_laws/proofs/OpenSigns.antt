-- Brackets that are open, and what lacks then.
use Rattle.std.proofs.Common.{◌≡◌, ℕ, ◌==◌, ◌&&◌, ◌||◌, ◌↔◌, Bool, true, false, not, cond, List, [], ◌∷◌, ◌++◌, refl, sym, ap, ◌∙◌, arith}
use Rattle.std.proofs.lemmas.Bool.Decides.{nat_tests}
use Rattle.aa_language_laws.specs.Places.{is_quoted}
use Rattle.aa_language_laws.specs.Paths.{is_in_brackets, OpenBracket}

opens_there : (b : ℕ) (quoted : Bool) → ((b == 91 || b == 93) && not quoted) ≡ true → (b == 91) ≡ true → (b ≡ 91) × (quoted ≡ false)
opens_there b quoted t o = grind (arith, nat_tests)

still_quoted : (b : ℕ) (quoted : Bool) → ((b == 91 || b == 93) && not quoted) ≡ false → b ≡ 93 → quoted ≡ true
still_quoted b quoted t e = grind (arith, nat_tests)

Unclosed : List ℕ → List ℕ → Type 0
Unclosed inner earlier = (later between : List ℕ) → inner ≡ later ++ (93 ∷ between) → is_quoted (between ++ (91 ∷ earlier)) ≡ true

unclosed_more : (b : ℕ) (inner earlier : List ℕ) → ((b == 91 || b == 93) && not (is_quoted (inner ++ (91 ∷ earlier)))) ≡ false → Unclosed inner earlier → Unclosed (b ∷ inner) earlier
unfolding Unclosed
unclosed_more b inner earlier t h [] between e =
    let is : b ≡ 93 = cc in
    let rest : inner ≡ between = cc in
    ap (λ (x : List ℕ). is_quoted (x ++ (91 ∷ earlier))) (sym rest) ∙ still_quoted b _ t is
unclosed_more b inner earlier t h (l ∷ later) between e = h later between (cc)

nothing_behind : (earlier : List ℕ) → Unclosed [] earlier
unfolding Unclosed
nothing_behind earlier [] between e = absurd cc
nothing_behind earlier (l ∷ later) between e = absurd cc

opened_by : (b : ℕ) (back : List ℕ) (v : Bool) → ((b == 91 || b == 93) && not (is_quoted back)) ≡ v
    → (is_in_brackets back ≡ true → OpenBracket back) → cond v (b == 91) (is_in_brackets back) ≡ true → OpenBracket (b ∷ back)
unfolding Unclosed
opened_by b back true t h e =
    let o = opens_there b (is_quoted back) t e in
    record { inner = []; earlier = back; whole = ap (λ (x : ℕ). x ∷ back) o.0; opens = o.1; unclosed = nothing_behind back }
opened_by b back false t h e =
    let o = h e in
    let same : ((b == 91 || b == 93) && not (is_quoted (o.inner ++ (91 ∷ o.earlier)))) ≡ false = rw o.whole at t in
    record { inner = b ∷ o.inner; earlier = o.earlier; whole = ap (λ (x : List ℕ). b ∷ x) o.whole; opens = o.opens; unclosed = unclosed_more b o.inner o.earlier same o.unclosed }

opened : (back : List ℕ) → is_in_brackets back ≡ true → OpenBracket back
unfolding is_in_brackets
opened [] e = absurd cc
opened (b ∷ back) e = opened_by b back _ refl (opened back) e

opens_or_not : (b : ℕ) (quoted : Bool) → (b ≡ 93 → quoted ≡ true) → (inside : Bool) → inside ≡ true → cond ((b == 91 || b == 93) && not quoted) (b == 91) inside ≡ true
opens_or_not b quoted h inside i = grind (arith, nat_tests)

open_is : (inner earlier : List ℕ) → is_quoted earlier ≡ false → Unclosed inner earlier → is_in_brackets (inner ++ (91 ∷ earlier)) ≡ true
unfolding is_in_brackets Unclosed
open_is [] earlier q h = ap (λ (v : Bool). cond (not v) true (is_in_brackets earlier)) q
open_is (b ∷ inner) earlier q h =
    opens_or_not b (is_quoted (inner ++ (91 ∷ earlier))) (λ e. h [] inner (ap (λ (x : ℕ). x ∷ inner) e)) _
    (open_is inner earlier q (λ later between e. h (b ∷ later) between (ap (λ (x : List ℕ). b ∷ x) e)))

pub brackets_lack : (back : List ℕ) → (is_in_brackets back ≡ true) ↔ OpenBracket back
unfolding Unclosed
brackets_lack back = (opened back, λ o. ap is_in_brackets o.whole ∙ open_is o.inner o.earlier o.opens o.unclosed)
