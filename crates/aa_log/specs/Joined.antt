-- Rows of reports, put together.
-- Source: own.
use Rattle.std.specs.Prelude.{ℕ, ◌+◌, min, List, [], ◌∷◌, if◌then◌else◌}
use Rattle.std.specs.Str.{bytes_eq}
use Rattle.aa_log.specs.Counted.{greatest, Counted}

-- a sum of counts, which doesn't pass the greatest number of 64 bits
abbrev pub added : ℕ → ℕ → ℕ
added a b = min (a + b) greatest

-- a row with a count more
abbrev pub raised : {A : Type 0} → Counted A → ℕ → Counted A
raised c n = record { item = c.item; count = added c.count n }

-- a row more: its count is added to the row of its key, which stays as it is otherwise; where there is none, it stands behind all
unfoldable pub with_row : {A : Type 0} → (A → List ℕ) → List (Counted A) → Counted A → List (Counted A)
with_row key [] r = r ∷ []
with_row key (c ∷ cs) r = if bytes_eq (key c.item) (key r.item) then raised c r.count ∷ cs else c ∷ with_row key cs r

-- rows, and those of a later report, one after another
unfoldable pub joined : {A : Type 0} → (A → List ℕ) → List (Counted A) → List (Counted A) → List (Counted A)
joined key cs [] = cs
joined key cs (r ∷ rs) = joined key (with_row key cs r) rs

-- how often the items of rows come, all together
unfoldable pub total : {A : Type 0} → List (Counted A) → ℕ
total [] = 0
total (c ∷ cs) = added c.count (total cs)
