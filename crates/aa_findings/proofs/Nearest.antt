-- The first of the shortest of some paths.
use Rattle.std.proofs.Common.{◌≡◌, ℕ, zero, suc, ◌+◌, ◌<◌, ◌≤◌, List, [], length, get_or, Bool, true, false, Option, Some, None, Contains, refl, subst, add-one, arith, ⊎_elim}
use Rattle.std.specs.Prelude.{nat_le, if◌then◌else◌}
use Rattle.std.proofs.lemmas.List.{get_or_default}
use Rattle.std.proofs.lemmas.Bool.{cases_lt, leb-true, leb-false}
use Rattle.aa_findings.specs.Shortest.{nearer, nearest}

-- the first of the shortest
abbrev pub IsNear : List (List ℕ) → ℕ → Option (List ℕ) → Type 0
IsNear paths n None = n ≡ 0
IsNear paths n (Some best) = Contains paths best × ((k : ℕ) → k < n → length best ≤ length (get_or paths k []))

module _ (paths : List (List ℕ)) (n : ℕ) (lt : n < length paths) where
  abbrev pub this : List ℕ
  this = get_or paths n []

  is_there : Contains paths this
  is_there = (n, lt, get_or_default paths n this [] lt)

  at_most : (best : List ℕ) → length best ≤ length this → ((k : ℕ) → k < n → length best ≤ length (get_or paths k [])) → (k : ℕ) → k < n + 1 → length best ≤ length (get_or paths k [])
  at_most best le least k less =
      ⊎_elim (λ (below : k < n). least k below) (λ (above : n ≤ k). subst (λ (m : ℕ). length best ≤ length (get_or paths m [])) (omega (arith, less, above)) le) (cases_lt k n)

  one_more : (o : Option (List ℕ)) → IsNear paths n o → IsNear paths (n + 1) (Some (nearer o this))
  one_more None none = (is_there, at_most this (omega arith) (λ k less. absurd (omega (arith, none, less))))
  one_more (Some best) (there, least) = by (nat_le (length best) (length this)) refl
    where
      by : (b : Bool) → nat_le (length best) (length this) ≡ b → IsNear paths (n + 1) (Some (if b then best else this))
      by true e = (there, at_most best (leb-true (length best) (length this) e) least)
      by false e = let longer = leb-false (length best) (length this) e in (is_there, at_most this (omega arith) (λ k less. let l = least k less in omega (arith, l, longer)))

pub near : (paths : List (List ℕ)) (n : ℕ) → n ≤ length paths → IsNear paths n (nearest paths n)
near paths zero le = refl
near paths (suc n) le =
    subst (λ (k : ℕ). IsNear paths k (nearest paths (suc n))) (add-one n) (one_more paths n (omega (arith, le)) (nearest paths n) (near paths n (omega (arith, le))))
