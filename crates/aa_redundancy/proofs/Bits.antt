-- What is granted, bit by bit.
use Rattle.std.proofs.Common.{◌≡◌, ℕ, ◌<◌, ◌≤◌, ◌-◌, true, false, sym, ap, ◌∙◌, arith, ⊎_elim}
use Rattle.std.specs.Prelude.{bit_and, bit_or}
use Rattle.std.specs.Int.Bits.{and_zero_r}
use Rattle.std.proofs.lemmas.Nat.{and-not, and_comm, and_assoc, and_le_r, le_or_l}
use Rattle.std.proofs.lemmas.Bool.{cases_Bool, cases_lt, eqb-true}
use Rattle.aa_model.specs.Lawful.{has_exec}
use Rattle.aa_compile.specs.declared.sets.RuleSets.{RuleSets}
use Rattle.aa_compile.specs.Said.{perms_of, minus, granted}

-- bits of which none is beyond the others are among these
pub covered : (a g : ℕ) → a < 256 → g < 256 → bit_and a (255 - g) ≡ 0 → bit_and a g ≡ a
covered a g p q e = let n = and-not 8 g a q p in omega (arith, n, and_comm a (255 - g), and_comm a g, e)

granted_small : (v : RuleSets) → granted v < 256
granted_small v = omega (arith, and_le_r v.allow.0 (255 - v.deny.0))

-- of what is asked and granted, what is reported is what is granted and reported
pub reported_is : (asked : ℕ) (v : RuleSets) → asked < 256 → minus asked (granted v) ≡ 0 → bit_and asked v.audited.0 ≡ bit_and asked (bit_and v.audited.0 (granted v))
reported_is asked v small none =
    ap (λ n. bit_and n v.audited.0) (sym (covered asked (granted v) small (granted_small v) none))
    ∙ and_assoc v.audited.0 asked (granted v)
    ∙ ap (bit_and asked) (and_comm (granted v) v.audited.0)

-- what is denied isn't granted
beyond : (d : ℕ) → bit_and d 64 ≡ 64 → bit_and (255 - d) 64 ≡ 0
beyond d e =
    ⊎_elim
    (λ (l : d < 256). let n = and-not 8 d 64 l (omega arith) in omega (arith, n, e))
    (λ (g : 256 ≤ d). let z : 255 - d ≡ 0 = omega (arith, g) in ap (λ n. bit_and n 64) z)
    (cases_lt d 256)

none_granted : (v : RuleSets) → bit_and v.deny.0 64 ≡ 64 → bit_and (granted v) 64 ≡ 0
none_granted v e = and_assoc 64 v.allow.0 (255 - v.deny.0) ∙ ap (bit_and v.allow.0) (beyond v.deny.0 e) ∙ and_zero_r v.allow.0

pub not_denied : (v : RuleSets) → has_exec (perms_of (granted v)) ≡ true → has_exec v.deny ≡ false
not_denied v e =
    ⊎_elim
    (λ (d : has_exec v.deny ≡ true).
    let yes = eqb-true (bit_and (granted v) 64) 64 e in
    let no' = none_granted v (eqb-true (bit_and v.deny.0 64) 64 d) in
    absurd (omega (arith, yes, no')))
    (λ (d : has_exec v.deny ≡ false). d)
    (cases_Bool (has_exec v.deny))

-- of two numbers joined to nothing, the first is nothing
pub first_none : (a b : ℕ) → bit_or a b ≡ 0 → a ≡ 0
first_none a b e = omega (arith, le_or_l a b, e)
