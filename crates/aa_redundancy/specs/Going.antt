-- Places whose rules can go, each by itself, and together.
-- Source: own.
use Rattle.std.specs.Prelude.{◌≡◌, ◌≢◌, ℕ, ◌<◌, ◌≤◌, ◌&&◌, not, List, Bool, true, false, length}
use Rattle.aa_redundancy.specs.declared.going.Going.{Going}
use Rattle.aa_redundancy.specs.Without.{only, marked, with_later}

-- the marked numbers are those of which something holds, and others are those of which it doesn't
abbrev pub MarksThose : List Bool → ℕ → (ℕ → Type 0) → Type 0
MarksThose flags count P = (i : ℕ) → i < count → (marked flags i ≡ true → P i) × (marked flags i ≡ false → P i → ⊥)

-- nothing is marked
abbrev pub NoneMarked : List Bool → Type 0
NoneMarked flags = (n : ℕ) → marked flags n ≡ false

-- all that are marked stand behind a number
abbrev pub AreLater : List Bool → ℕ → Type 0
AreLater flags i = (n : ℕ) → n ≤ i → marked flags n ≡ false

-- a place can go by itself, and isn't held
abbrev pub is_free : List Bool → List Bool → ℕ → Bool
is_free alone held i = marked alone i && not (marked held i)

-- a number goes: it is wanted, and nothing changes when it goes with those behind it that are marked
abbrev pub GoesWith : ((ℕ → Bool) → Type 0) → (ℕ → Bool) → List Bool → ℕ → Type 0
GoesWith Same wanted flags i = (wanted i ≡ true) × Same (with_later flags i)

-- number i alone is marked anew, or isn't: exactly where it goes with those behind it
pub record Settles (Same : (ℕ → Bool) → Type 0) (wanted : ℕ → Bool) (i : ℕ) (was now : List Bool) : Type 0 where
  pub many : length now ≡ length was
  pub others : (n : ℕ) → n ≢ i → marked now n ≡ marked was n
  pub goes : marked now i ≡ true → GoesWith Same wanted now i
  pub stays : marked now i ≡ false → GoesWith Same wanted now i → ⊥
  pub all : Same (marked now)

-- a place is marked alone exactly where nothing changes when it goes by itself; together, exactly where it is marked alone, isn't held, and
-- nothing changes when it goes with those behind it that are marked together; and nothing changes when all of these go
pub record AreGoing (Same : (ℕ → Bool) → Type 0) (count : ℕ) (held : List Bool) (g : Going) : Type 0 where
  pub many_alone : length g.alone.items ≡ count
  pub many_together : length g.together.items ≡ count
  pub alone : MarksThose g.alone.items count (λ i. Same (only i))
  pub together : MarksThose g.together.items count (GoesWith Same (is_free g.alone.items held) g.together.items)
  pub all : Same (marked g.together.items)
