-- Places that are kept beside one, while all others are gone.
-- Source: own.
use Rattle.std.specs.Prelude.{◌≡◌, ◌≢◌, ℕ, ◌<◌, List, Bool, true, false, length, slice_get, Some, Contains, if◌then◌else◌}
use Rattle.std.specs.List.{sum_by}
use Rattle.aa_redundancy.specs.declared.marks.RuleMark.{RuleMark}
use Rattle.aa_redundancy.specs.declared.tables.Table.{Table}
use Rattle.aa_redundancy.specs.declared.mentions.RowNumber.{RowNumber}
use Rattle.aa_redundancy.specs.declared.beside.Beside.{Beside}
use Rattle.aa_redundancy.specs.Without.{marked}
use Rattle.aa_redundancy.specs.Reasons.{is_one_of, and_one, but_one}

-- so many are marked, and nothing else
pub record AllMarked (count : ℕ) (flags : List Bool) : Type 0 where
  pub wide : length flags ≡ count
  pub each : (n : ℕ) → n < count → marked flags n ≡ true

-- so many aren't
pub record NoneMarkedOf (count : ℕ) (flags : List Bool) : Type 0 where
  pub wide : length flags ≡ count
  pub each : (n : ℕ) → marked flags n ≡ false

-- before any is kept
pub record KeepsNone (count : ℕ) (b : Beside) : Type 0 where
  pub gone : AllMarked count b.gone.items
  pub but : AllMarked count b.but.items
  pub none : NoneMarkedOf count b.only.items

-- what isn't gone is listed as kept, each is another place than i; the same flags but for i
pub record Keeps (count i : ℕ) (b : Beside) : Type 0 where
  pub wide : length b.gone.items ≡ count
  pub wide_but : length b.but.items ≡ count
  pub none : NoneMarkedOf count b.only.items
  pub there : (n : ℕ) → is_one_of b.kept.items n ≡ true → n < count
  pub others : is_one_of b.kept.items i ≡ false
  pub known : (n : ℕ) → n < count → marked b.gone.items n ≡ false → is_one_of b.kept.items n ≡ true
  pub pair : (n : ℕ) → marked b.but.items n ≡ but_one i (marked b.gone.items) n

-- what isn't gone stays so
abbrev pub StayKept : Beside → Beside → Type 0
StayKept b c = (n : ℕ) → marked b.gone.items n ≡ false → marked c.gone.items n ≡ false

-- of the places of a row's marks none is gone but i
abbrev pub RowKept : List Bool → ℕ → List RuleMark → List ℕ → Type 0
RowKept flags i marks row = (n : ℕ) (m : RuleMark) → Contains row n → slice_get marks n ≡ Some m → m.rule ≢ i → marked flags m.rule ≡ false

-- so of those of a row of one of the tables
abbrev pub KeptAt : List Bool → ℕ → List Table → RowNumber → Type 0
KeptAt flags i ts at = (t : Table) (row : List ℕ) → slice_get ts at.table ≡ Some t → slice_get t.rows.items at.row ≡ Some row → RowKept flags i t.marks.items row

-- how many aren't marked
abbrev pub unmarked : List Bool → ℕ
unmarked flags = sum_by (λ (b : Bool). if b then 0 else 1) flags

-- a place that is kept is needed: the rules of place i change something beside what else is kept
abbrev pub IsNeeded : ((ℕ → Bool) → (ℕ → Bool) → Type 0) → ℕ → List Bool → ℕ → Type 0
IsNeeded Alike i flags n = marked flags n ≡ false → Alike (and_one n (marked flags)) (but_one i (and_one n (marked flags))) → ⊥
