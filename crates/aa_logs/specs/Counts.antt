-- How many requests of a log are answered how, then and now.
-- Source: own.
use Rattle.std.specs.Prelude.{ℕ, ◌≡◌, ◌+◌, ◌-◌, ◌^◌, ◌==◌, ◌&&◌, Bool, List, [], slice_index_or, slice_set, min, if◌then◌else◌}
use Rattle.aa_logs.specs.declared.line.Then.{Then}
use Rattle.aa_logs.specs.declared.answer.Now.{Now}
use Rattle.aa_logs.specs.Answers.{row_of, column_of}

-- the counts of what became of requests then
abbrev pub row_in : ℕ → List (List ℕ) → List ℕ
row_in row rows = slice_index_or rows row []

-- one count
abbrev pub count_in : ℕ → ℕ → List (List ℕ) → ℕ
count_in row column rows = slice_index_or (row_in row rows) column 0

-- the count at a place is one more, up to the greatest of 64 bits, and each other one is what it was
abbrev pub counted : ℕ → ℕ → List (List ℕ) → List (List ℕ)
counted row column rows = slice_set rows row (slice_set (row_in row rows) column (min (count_in row column rows + 1) (2 ^ 64 - 1)))

-- what was and what is now are those
abbrev pub is_so : Then → Now → Then → Now → Bool
is_so before after was is = row_of was == row_of before && column_of is == column_of after

-- each count is 0
abbrev pub AreNone : List (List ℕ) → Type 0
AreNone rows = (before : Then) (after : Now) → count_in (row_of before) (column_of after) rows ≡ 0

-- of what was and is now so there is one more, up to the greatest of 64 bits, and of all else as many
abbrev pub HasOneMore : Then → Now → List (List ℕ) → List (List ℕ) → Type 0
HasOneMore was is old new = (before : Then) (after : Now)
    → count_in (row_of before) (column_of after) new ≡
    (if is_so before after was is then min (count_in (row_of before) (column_of after) old + 1) (2 ^ 64 - 1) else count_in (row_of before)
    (column_of after) old)
