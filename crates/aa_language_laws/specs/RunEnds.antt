-- Where runs end that one byte ends, or a byte and those behind it.
-- Source: apparmor.d(5), "Format".
use Rattle.std.specs.Prelude.{⊤, ℕ, ◌≡◌, Bool, true, List, [], ◌∷◌}

-- a run ends at a byte that passes the test, and at the end of the text
abbrev pub RunEnds : (ℕ → List ℕ → Bool) → List ℕ → List ℕ → Type 0
RunEnds ends back [] = ⊤
RunEnds ends back (b ∷ bs) = ends b bs ≡ true
