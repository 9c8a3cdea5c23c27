-- Marks that say differently how a text is executed.
use Rattle.std.specs.Prelude.{◌≡◌, ◌≢◌, ℕ, ◌<◌, List, [], length, Bool, not, ◌&&◌, if◌then◌else◌, Option, Some, None, slice_index, slice_index_or}
use Rattle.std.specs.Option.{option_and_then}
use Rattle.std.specs.List.{slice_get}
use Rattle.aa_compile.specs.declared.mark.Way.{Way}
use Rattle.aa_compile.specs.declared.mark.Mark.{Mark}

-- the pattern is literal, or isn't, as wanted
abbrev pub is_sort : Bool → Mark → Bool
is_sort literal m = if literal then m.literal else not m.literal

-- how the mark says it, if it is an allowing one of that sort
abbrev pub way_if : Bool → Mark → Option Way
way_if literal m = if is_sort literal m && not m.deny then m.way else None

-- how the rule of a pattern lets programs be executed, where the pattern is of that sort
abbrev pub way_at : List Mark → Bool → ℕ → Option Way
way_at marks literal n = option_and_then (way_if literal) (slice_get marks n)

-- two of these marks say it differently
pub record WaysDiffer (marks : List Mark) (literal : Bool) (numbers : List ℕ) : Type 0 where
  pub i : ℕ
  pub j : ℕ
  pub one : Way
  pub other : Way
  pub within : (i < length numbers) × (j < length numbers)
  pub first : way_at marks literal (slice_index numbers i) ≡ Some one
  pub second : way_at marks literal (slice_index numbers j) ≡ Some other
  pub differ : one ≢ other

-- so in one of these lists
abbrev pub HasConflict : List Mark → List (List ℕ) → Type 0
HasConflict marks lists = (number : ℕ) × (literal : Bool) × (number < length lists) × WaysDiffer marks literal (slice_index_or lists number [])
