-- Facts that are equivalent.
use Rattle.std.proofs.Common.{◌≡◌, ◌↔◌, IsTrue, Bool, false, sym, ◌∙◌, true≢false}

pub not_true : {P : Type 0} (b : Bool) → (IsTrue b ↔ P) → b ≡ false → P → ⊥
not_true b same e p = true≢false (sym (same.1 p) ∙ e)

pub ↔_trans : {P Q R : Type 0} → (P ↔ Q) → (Q ↔ R) → P ↔ R
↔_trans f g = (λ p. g.0 (f.0 p), λ r. f.1 (g.1 r))

pub ↔_sym : {P Q : Type 0} → (P ↔ Q) → Q ↔ P
↔_sym f = (f.1, f.0)
