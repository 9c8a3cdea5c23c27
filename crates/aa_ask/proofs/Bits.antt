-- Sets of permissions, bit by bit.
use Rattle.std.proofs.Common.{◌≡◌, ℕ, ◌-◌, ◌<◌, ◌≤◌, Bool, true, false, min, refl, ap, ◌∙◌, arith, w8}
use Rattle.std.specs.Prelude.{bit_and, bit_or, ◌==◌, ◌&&◌}
use Rattle.std.specs.Int.{bit_at}
use Rattle.std.specs.Int.Bits.{or_add_and}
use Rattle.std.proofs.lemmas.Nat.{and_le_l, and_le_r, or_lt, le_or_l, le_or_r}
use Rattle.std.proofs.lemmas.Bool.{eqb-true, eqb-false, eq-eqb, ne_eqb}
use Rattle.std.proofs.lemmas.Nat.Bits.{bit_at_and, bit_at_or, bit_at_not, bit_at-lt, bit_at-zero, same_from_bits_below}
use Rattle.aa_compile.specs.Said.{minus}

pub minus_le : (a b : ℕ) → minus a b ≤ a
minus_le a b = and_le_l a (255 - b)

minus_bit : (a b i : ℕ) → b < 256 → i < 8 → bit_at (minus a b) i ≡ min (bit_at a i) (1 - bit_at b i)
minus_bit a b i fits low = bit_at_and a (255 - b) i ∙ ap (min (bit_at a i)) (bit_at_not w8 b i fits low)

-- two sets of eight bits with the same bits
same : (a b : ℕ) → a < 256 → b < 256 → ((i : ℕ) → i < 8 → bit_at a i ≡ bit_at b i) → a ≡ b
same a b fa fb h = same_from_bits_below 8 a b fa fb h

pub minus_nothing : (a : ℕ) → a < 256 → minus a 0 ≡ a
minus_nothing a fits = same (minus a 0) a (omega (arith, minus_le a 0)) fits (λ i low. omega (arith, minus_bit a 0 i (omega arith) low, bit_at-lt a i, bit_at-zero i))

-- to take what a set has of it is to take the set
pub minus_part : (a p : ℕ) → a < 256 → p < 256 → minus a (bit_and p a) ≡ minus a p
minus_part a p fa fp =
    let fits : bit_and p a < 256 = omega (arith, and_le_l p a) in
    same (minus a (bit_and p a)) (minus a p) (omega (arith, minus_le a (bit_and p a))) (omega (arith, minus_le a p))
    (λ i low. omega (arith, minus_bit a (bit_and p a) i fits low, bit_at_and p a i, minus_bit a p i fp low, bit_at-lt a i, bit_at-lt p i))

pub minus_both : (a b c : ℕ) → a < 256 → b < 256 → c < 256 → bit_or b c < 256 → minus (minus a b) c ≡ minus a (bit_or b c)
minus_both a b c fa fb fc fits =
    same (minus (minus a b) c) (minus a (bit_or b c)) (omega (arith, minus_le (minus a b) c, minus_le a b)) (omega (arith, minus_le a (bit_or b c)))
    (λ i low. omega (arith, minus_bit (minus a b) c i fc low, minus_bit a b i fb low, minus_bit a (bit_or b c) i fits low, bit_at_or b c i, bit_at-lt a i, bit_at-lt b i, bit_at-lt c i))

pub or_below : (a b : ℕ) → a < 256 → b < 256 → bit_or a b < 256
or_below a b fa fb = or_lt 8 a b fa fb

pub and_either : (a b c : ℕ) → a < 256 → b < 256 → c < 256 → bit_and a (bit_or b c) ≡ bit_or (bit_and b a) (bit_and a c)
and_either a b c fa fb fc =
    same (bit_and a (bit_or b c)) (bit_or (bit_and b a) (bit_and a c)) (omega (arith, and_le_l a (bit_or b c))) (or_below (bit_and b a) (bit_and a c) (omega (arith, and_le_l b a)) (omega (arith, and_le_l a c)))
    (λ i low. omega (arith, bit_at_and a (bit_or b c) i, bit_at_or b c i, bit_at_or (bit_and b a) (bit_and a c) i, bit_at_and b a i, bit_at_and a c i))

-- what isn't granted is what is denied, and what of the rest isn't allowed
pub missing : (asked allow deny : ℕ) → asked < 256 → allow < 256 → deny < 256
    → minus asked (minus allow deny) ≡ bit_or (bit_and asked deny) (minus (minus asked deny) allow)
missing asked allow deny fa fl fd =
    let fg : minus allow deny < 256 = omega (arith, minus_le allow deny) in
    same (minus asked (minus allow deny)) (bit_or (bit_and asked deny) (minus (minus asked deny) allow)) (omega (arith, minus_le asked (minus allow deny)))
    (or_below (bit_and asked deny) (minus (minus asked deny) allow) (omega (arith, and_le_l asked deny)) (omega (arith, minus_le (minus asked deny) allow, minus_le asked deny)))
    (λ i low. omega (
      arith,
      minus_bit asked (minus allow deny) i fg low,
      minus_bit allow deny i fd low,
      bit_at_or (bit_and asked deny) (minus (minus asked deny) allow) i,
      bit_at_and asked deny i,
      minus_bit (minus asked deny) allow i fl low,
      minus_bit asked deny i fd low,
      bit_at-lt asked i,
      bit_at-lt deny i,
      bit_at-lt allow i,
    ))

-- what is denied isn't granted
pub denied : (asked allow deny : ℕ) → asked < 256 → allow < 256 → deny < 256 → bit_and (minus asked (minus allow deny)) deny ≡ bit_and asked deny
denied asked allow deny fa fl fd =
    let fg : minus allow deny < 256 = omega (arith, minus_le allow deny) in
    same (bit_and (minus asked (minus allow deny)) deny) (bit_and asked deny) (omega (arith, and_le_r (minus asked (minus allow deny)) deny)) (omega (arith, and_le_l asked deny))
    (λ i low. omega (arith, bit_at_and (minus asked (minus allow deny)) deny i, minus_bit asked (minus allow deny) i fg low, minus_bit allow deny i fd low, bit_at_and asked deny i, bit_at-lt asked i, bit_at-lt deny i, bit_at-lt allow i))

none_of_tested : (a b : ℕ) (p q : Bool) → (a == 0) ≡ p → (b == 0) ≡ q → (bit_or a b == 0) ≡ (p && q)
none_of_tested a b true true ea eb = eq-eqb (bit_or a b) 0 (omega (arith, or_add_and a b, eqb-true a 0 ea, eqb-true b 0 eb))
none_of_tested a b true false ea eb = ne_eqb (bit_or a b) 0 (λ e. eqb-false b 0 eb (omega (arith, e, le_or_r a b)))
none_of_tested a b false q ea eb = ne_eqb (bit_or a b) 0 (λ e. eqb-false a 0 ea (omega (arith, e, le_or_l a b)))

-- of two sets together nothing is there where there is nothing of each
pub none_of_both : (a b : ℕ) → (bit_or a b == 0) ≡ (a == 0 && b == 0)
none_of_both a b = none_of_tested a b (a == 0) (b == 0) refl refl
