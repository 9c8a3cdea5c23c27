-- Braces that are open, and what lacks then.
use Rattle.std.proofs.Common.{◌≡◌, ℕ, zero, suc, ◌+◌, ◌<◌, ◌≤◌, ◌==◌, ◌&&◌, ◌⊎◌, ◌↔◌, Bool, true, false, cond, List, [], ◌∷◌, drop, refl, ap, ◌∙◌, arith, inl, inr}
use Rattle.std.proofs.lemmas.Bool.{cases_lt, and_parts, eqb-true}
use Rattle.aa_language_laws.specs.Paths.{counts, count_of, IsInBraces, OpenBrace}

none_counted : (back : List ℕ) → count_of 125 0 back < count_of 123 0 back → ⊥
unfolding count_of
none_counted back h = omega arith

one_opens : (earlier : List ℕ) → counts earlier ≡ true → count_of 123 1 (123 ∷ earlier) ≡ 1
unfolding count_of
one_opens earlier o = ap (λ (v : Bool). cond v 1 0 + 0) o

none_closes : (earlier : List ℕ) → count_of 125 1 (123 ∷ earlier) ≡ 0
unfolding count_of
none_closes earlier = refl

-- the nearest bytes, and those before them
none_left : (c n : ℕ) → count_of c n [] ≡ 0
unfolding count_of
none_left c zero = refl
none_left c (suc n) = refl

in_two : (c n k : ℕ) (back : List ℕ) → count_of c (n + k) back ≡ count_of c n back + count_of c k (drop n back)
unfolding count_of
in_two c zero k back = let e : 0 + k ≡ k = omega arith in omega (arith, ap (λ (m : ℕ). count_of c m back) e)
in_two c (suc n) k [] = omega (arith, none_left c (suc n + k), none_left c k)
in_two c (suc n) k (b ∷ back) =
    let e : suc n + k ≡ suc (n + k) = omega arith in
    omega (arith, ap (λ (m : ℕ). count_of c m (b ∷ back)) e, in_two c n k back)

IsMore : ℕ → List ℕ → Type 0
IsMore n back = count_of 125 n back < count_of 123 n back

abbrev NoneMore : ℕ → List ℕ → Type 0
NoneMore n back = (k : ℕ) → k < n → count_of 123 k back ≤ count_of 125 k back

none_further : (n : ℕ) (back : List ℕ) → NoneMore n back → count_of 123 n back ≤ count_of 125 n back → NoneMore (suc n) back
none_further n back none h k lt = by_place (cases_lt k n) where
  by_place : (k < n) ⊎ (n ≤ k) → count_of 123 k back ≤ count_of 125 k back
  by_place (inl below) = none k below
  by_place (inr at) = let same : k ≡ n = omega arith in rw same h

Least : ℕ → List ℕ → Type 0
Least n back = (m : ℕ) × (m < n) × IsMore m back × NoneMore m back

least_by : (n : ℕ) (back : List ℕ) → NoneMore n back → (count_of 125 n back < count_of 123 n back) ⊎ (count_of 123 n back ≤ count_of 125 n back) → Least (suc n) back ⊎ NoneMore (suc n) back
unfolding Least IsMore
least_by n back none (inl more) = inl (n, omega arith, more, none)
least_by n back none (inr few) = inr (none_further n back none few)

wider : (n : ℕ) (back : List ℕ) → Least n back → Least (suc n) back
unfolding Least
wider n back l = (l.0, omega (arith, l.1), l.2, l.3)

least : (n : ℕ) (back : List ℕ) → Least n back ⊎ NoneMore n back
least zero back = inr (λ k lt. absurd (omega arith))
least (suc n) back = by_least (least n back) where
  by_least : Least n back ⊎ NoneMore n back → Least (suc n) back ⊎ NoneMore (suc n) back
  by_least (inl l) = inl (wider n back l)
  by_least (inr none) = least_by n back none (cases_lt (count_of 125 n back) (count_of 123 n back))

first_more : (n : ℕ) (back : List ℕ) → IsMore n back → Least (suc n) back
unfolding IsMore
first_more n back more = by_least (least (suc n) back) where
  by_least : Least (suc n) back ⊎ NoneMore (suc n) back → Least (suc n) back
  by_least (inl l) = l
  by_least (inr none) = absurd (let few = none n (omega arith) in omega arith)

-- what stands before the nearest bytes where one more makes more of them open than close
opens_one : (x y : Bool) (l r : ℕ) → l ≤ r → r + (cond y 1 0 + 0) < l + (cond x 1 0 + 0) → (x ≡ true) × (r ≤ l)
opens_one true true l r h k = absurd (omega arith)
opens_one true false l r h k = (refl, omega arith)
opens_one false true l r h k = absurd (omega arith)
opens_one false false l r h k = absurd (omega arith)

unclosed_behind : (between : ℕ) (back : List ℕ) → NoneMore (suc between) back → count_of 125 between back ≤ count_of 123 between back
    → (n k : ℕ) → n + k ≡ between → count_of 125 k (drop n back) ≤ count_of 123 k (drop n back)
unclosed_behind between back none few n k e =
    let here = none n (omega arith) in
    omega (arith, in_two 125 n k back, in_two 123 n k back, ap (λ (m : ℕ). count_of 125 m back) e, ap (λ (m : ℕ). count_of 123 m back) e)

brace_at : (between : ℕ) (back rest : List ℕ) → drop between back ≡ rest → NoneMore (suc between) back
    → count_of 125 between back + count_of 125 1 rest < count_of 123 between back + count_of 123 1 rest → OpenBrace back
unfolding count_of
brace_at between back [] d none more = absurd (let few = none between (omega arith) in omega arith)
brace_at between back (b ∷ earlier) d none more =
    let few = none between (omega arith) in
    let o = opens_one (b == 123 && counts earlier) (b == 125 && counts earlier) (count_of 123 between back) (count_of 125 between back) few more in
    let p = and_parts (b == 123) (counts earlier) o.0 in
    record {
      between = between;
      earlier = earlier;
      stands = d ∙ ap (λ (x : ℕ). x ∷ earlier) (eqb-true b 123 p.0);
      opens = p.1;
      unclosed = unclosed_behind between back none o.1;
    }

brace_before : (m : ℕ) (back : List ℕ) → IsMore m back → NoneMore m back → OpenBrace back
unfolding IsMore
brace_before zero back more none = absurd (none_counted back more)
brace_before (suc n) back more none =
    let e : n + 1 ≡ suc n = omega arith in
    brace_at n back (drop n back) refl none
    (omega (arith, in_two 125 n 1 back, in_two 123 n 1 back, ap (λ (m : ℕ). count_of 125 m back) e, ap (λ (m : ℕ). count_of 123 m back) e))

some_brace : (back : List ℕ) → IsInBraces back → OpenBrace back
unfolding IsMore Least
some_brace back (n, more) = let l = first_more n back more in brace_before l.0 back l.2 l.3

one_more : (back earlier : List ℕ) (between : ℕ) → drop between back ≡ 123 ∷ earlier → counts earlier ≡ true
    → (count_of 123 (between + 1) back ≡ count_of 123 between back + 1) × (count_of 125 (between + 1) back ≡ count_of 125 between back)
one_more back earlier between d o = (
  in_two 123 between 1 back ∙ ap (λ (x : List ℕ). count_of 123 between back + count_of 123 1 x) d ∙ ap (λ (n : ℕ). count_of 123 between back + n) (one_opens earlier o),
  omega (arith, in_two 125 between 1 back, ap (count_of 125 1) d, none_closes earlier),
)

in_some : (back : List ℕ) → OpenBrace back → IsInBraces back
in_some back b =
    let o = one_more back b.earlier b.between b.stands b.opens in
    let few : count_of 125 b.between back ≤ count_of 123 b.between back = b.unclosed 0 b.between (omega arith) in
    (b.between + 1, omega (arith, o.0, o.1))

pub braces_lack : (back : List ℕ) → IsInBraces back ↔ OpenBrace back
braces_lack back = (some_brace back, in_some back)
