-- Texts of a kind.
-- Source: own.
use Rattle.std.specs.Prelude.{◌≡◌, ℕ, ◌<◌, ◌≤◌, List, ◌++◌, length, All}

-- a byte that isn't below `low`
abbrev pub IsFrom : ℕ → ℕ → Type 0
IsFrom low b = (low ≤ b) × (b < 256)

-- it begins with the head, goes on with bytes of at least `low`, and has at most `max` bytes
pub record IsWanted (head : List ℕ) (low max : ℕ) (s : List ℕ) : Type 0 where
  pub rest : List ℕ
  pub whole : s ≡ head ++ rest
  pub bytes : All (IsFrom low) rest
  pub short : length s ≤ max
