-- Places of a text, and the first at which something ends.
-- Source: apparmor.d(5), "Globbing".
use Rattle.std.specs.Prelude.{ℕ, zero, suc, ◌<◌, ◌==◌, Bool, false, not, List, take, drop, reverse}
use Rattle.std.specs.List.{prefix_len}

-- the bytes before a place, the nearest first
abbrev pub bytes_before : List ℕ → ℕ → List ℕ
bytes_before text at = reverse (take at text)

-- it is so at this place, and at none before it
pub record IsFirst (P : ℕ → Type 0) (at : ℕ) : Type 0 where
  pub here : P at
  pub none_before : (n : ℕ) → n < at → P n → ⊥

-- the first place that ends, by the bytes before it, the nearest first, and those from it on
abbrev pub EndsFirst : (List ℕ → List ℕ → Type 0) → List ℕ → ℕ → Type 0
EndsFirst Ends text at = IsFirst (λ n. Ends (bytes_before text n) (drop n text)) at

-- an odd number
abbrev pub is_odd : ℕ → Bool
is_odd zero = false
is_odd (suc n) = not (is_odd n)

-- a backslash quotes the byte behind these: they end in an odd number of backslashes
unfoldable pub is_quoted : List ℕ → Bool
is_quoted back = is_odd (prefix_len (λ b. b == 92) back)
