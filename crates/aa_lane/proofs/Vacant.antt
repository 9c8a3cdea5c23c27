-- Rows of empty slots.
use Rattle.std.proofs.Common.{◌≡◌, ℕ, zero, suc, ◌+◌, ◌%◌, [], ◌∷◌, ◌++◌, ap, ◌∙◌, arith}
use Rattle.aa_lane.specs.Ends.{vacant}
use Rattle.aa_lane.specs.declared.cells.Cell.TheVariants.{Vacant}

module _ (M S Q A : Type 0) where
  pub vacant-first : (c from n m : ℕ) → n ≡ suc m → vacant {M = M} {S = S} {Q = Q} {A = A} c from n ≡ (from % c, Vacant) ∷ vacant c (suc from) m
  vacant-first c from n m e = ap (vacant c from) e

  pub vacant-last : (c from n : ℕ) → vacant {M = M} {S = S} {Q = Q} {A = A} c from n ++ ((from + n) % c, Vacant) ∷ [] ≡ vacant c from (suc n)
  vacant-last c from zero = ap (λ i. (i % c, Vacant) ∷ []) (omega arith)
  vacant-last c from (suc n) = ap (λ l. (from % c, Vacant) ∷ l) (ap (λ i. vacant c (suc from) n ++ (i % c, Vacant) ∷ []) (omega arith) ∙ vacant-last c (suc from) n)
