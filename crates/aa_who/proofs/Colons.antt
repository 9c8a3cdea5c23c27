-- The first colon stands within a text.
use Rattle.std.proofs.Common.{◌≡◌, ◌<◌, ◌==◌, ℕ, List, length, Some, sym}
use Rattle.std.specs.Prelude.{position}
use Rattle.std.proofs.lemmas.List.Quantifiers.{position-Some}

pub colon_within : (text : List ℕ) (at : ℕ) → Some at ≡ position (λ b. b == 58) text → at < length text
colon_within text at e = (position-Some (λ b. b == 58) text at 0 (sym e)).0
