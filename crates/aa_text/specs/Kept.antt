-- Places of a text that are kept, so that others are counted from them.
-- Source: own.
use Rattle.std.specs.Prelude.{◌≡◌, ℕ, ◌*◌, ◌≤◌, List, length, Some, slice_get}
use Rattle.aa_text.specs.declared.place.Place.{Place}
use Rattle.aa_text.specs.Places.{place_in}

-- those of its first byte and of each 256 bytes behind it
abbrev pub AreKept : List ℕ → List Place → Type 0
AreKept text kept = (n : ℕ) → 256 * n ≤ length text → slice_get kept n ≡ Some (place_in text (256 * n))
