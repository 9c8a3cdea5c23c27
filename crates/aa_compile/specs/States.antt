-- How many states the deterministic automaton of patterns has.
-- Source: own.
use Rattle.std.specs.Prelude.{◌≡◌, ℕ, ◌<◌, ◌↔◌, List}
use Rattle.aa_pattern.specs.declared.pattern.Pattern.{Pattern}
use Rattle.aa_pattern.specs.Places.{SamePlaces}
use Rattle.aa_auto.specs.Tables.{IsText}

-- texts lead to n states: two texts to one state exactly where they may stand at the same places, and some text to each state
pub record HasStates (ps : List Pattern) (n : ℕ) : Type 0 where
  pub state : List ℕ → ℕ
  pub within : (s : List ℕ) → IsText s → state s < n
  pub same : (s u : List ℕ) → IsText s → IsText u → (state s ≡ state u) ↔ SamePlaces ps s u
  pub reached : (k : ℕ) → k < n → (s : List ℕ) × IsText s × (state s ≡ k)
