-- Whether a backslash quotes a byte, byte by byte.
use Rattle.std.proofs.Common.{◌≡◌, ℕ, ◌+◌, ◌==◌, ◌&&◌, Bool, true, false, not, List, [], ◌∷◌, refl, cond, ap}
use Rattle.std.specs.List.{prefix_len}
use Rattle.std.proofs.Math.Numerals.{one-add}
use Rattle.aa_language_laws.specs.Places.{is_odd, is_quoted}

odd_step : (v : Bool) (n : ℕ) → is_odd (cond v (1 + n) 0) ≡ (v && not (is_odd n))
odd_step true n = ap is_odd (one-add n)
odd_step false n = refl

pub quoted_step : (b : ℕ) (back : List ℕ) → is_quoted (b ∷ back) ≡ (b == 92 && not (is_quoted back))
unfolding is_quoted
quoted_step b back = odd_step (b == 92) (prefix_len (λ b. b == 92) back)

pub quoted_none : is_quoted [] ≡ false
unfolding is_quoted
quoted_none = refl
