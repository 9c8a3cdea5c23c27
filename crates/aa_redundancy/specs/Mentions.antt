-- Rows of tables by the places of which they have marks.
-- Source: own.
use Rattle.std.specs.Prelude.{◌≡◌, ℕ, ◌<◌, List, [], map, length, Bool, Some, slice_get, slice_index_or, Contains}
use Rattle.std.specs.declared.vec.Vec.{Vec}
use Rattle.aa_redundancy.specs.declared.marks.RuleMark.{RuleMark}
use Rattle.aa_redundancy.specs.declared.tables.Table.{Table}
use Rattle.aa_redundancy.specs.declared.mentions.RowNumber.{RowNumber}
use Rattle.aa_redundancy.specs.Tables.{Relation, Equal, none_gone, RowRelated}

-- a row of a table has a mark of a rule of a place
pub record Mentions (t : Table) (row : List ℕ) (place : ℕ) : Type 0 where
  pub number : ℕ
  pub mark : RuleMark
  pub stands : Contains row number
  pub read : slice_get t.marks.items number ≡ Some mark
  pub is : mark.rule ≡ place

-- the lists that vectors hold
abbrev pub lists : {X Y : Type 0} → List (Vec X Y) → List (List X)
lists vs = map (λ v. v.items) vs

-- the rows that are listed at a place
abbrev pub rows_at : List (List RowNumber) → ℕ → List RowNumber
rows_at listed place = slice_index_or listed place []

-- a row is listed at each place that it mentions
abbrev pub IsListed : Table → List ℕ → RowNumber → List (List RowNumber) → Type 0
IsListed t row at listed = (place : ℕ) → place < length listed → Mentions t row place → Contains (rows_at listed place) at

-- each row of table k is
abbrev pub RowsAreListed : Table → ℕ → List (List RowNumber) → Type 0
RowsAreListed t k listed = (j : ℕ) (row : List ℕ) → slice_get t.rows.items j ≡ Some row → IsListed t row (record { table = k; row = j }) listed

-- each row of each table
abbrev pub AreListed : List Table → List (List RowNumber) → Type 0
AreListed ts listed = (k : ℕ) (t : Table) → slice_get ts k ≡ Some t → RowsAreListed t k listed

-- what is listed stays so, at as many places
pub record StayListed (old new : List (List RowNumber)) : Type 0 where
  pub many : length new ≡ length old
  pub stay : (place : ℕ) (at : RowNumber) → Contains (rows_at old place) at → Contains (rows_at new place) at

-- what the marks of a row say when rules are gone is so related to what they say when others are
abbrev pub RelatedAt : Relation → List Table → (ℕ → Bool) → (ℕ → Bool) → RowNumber → Type 0
RelatedAt R ts gone others at = (t : Table) (row : List ℕ) → slice_get ts at.table ≡ Some t → slice_get t.rows.items at.row ≡ Some row → RowRelated R t.marks.items gone others row

-- the marks of a row say the same when rules are gone
abbrev pub SameAt : List Table → (ℕ → Bool) → RowNumber → Type 0
SameAt ts gone at = RelatedAt Equal ts gone none_gone at
