-- White space in place of a rule or an assignment.
-- Source: own.
use Rattle.std.specs.Prelude.{ℕ, ◌-◌, ◌==◌, ◌≡◌, ◌++◌, List, map, take, drop, Option, Some, None, slice_get, slice_set, if◌then◌else◌}
use Rattle.aa_files.specs.declared.unit.Source.{Source}
use Rattle.aa_files.specs.declared.unit.Unit as unit
use Rattle.aa_faults.specs.declared.extent.Extent.{Extent}

-- white space in place of a byte: a line end stays
abbrev pub blank_byte : ℕ → ℕ
blank_byte b = if b == 10 then b else 32

-- a text with white space in place of its bytes from one to another
abbrev pub blanked : ℕ → ℕ → List ℕ → List ℕ
blanked start end text = take start text ++ map blank_byte (take (end - start) (drop start text)) ++ drop (end - start) (drop start text)

-- which of the unit's sources has the number, as places have it; none is the main text
abbrev pub index_of : unit.Unit → ℕ → Option ℕ
index_of u file = if file == 0 then None else slice_get u.order.items (file - 1)

-- the source is the same but for white space in its text
pub record IsBlankedSource (x : Extent) (s t : Source) : Type 0 where
  pub name : t.name ≡ s.name
  pub path : t.path ≡ s.path
  pub is_folder : t.is_folder ≡ s.is_folder
  pub text : t.text.items ≡ blanked x.start x.end s.text.items

-- of some sources the one at a place is blanked
pub data AreBlanked (x : Extent) (i : ℕ) (before after : List Source) : Type 0 where
  NoneThere : slice_get before i ≡ None → after ≡ before → AreBlanked x i before after
  OneThere : (s t : Source) → slice_get before i ≡ Some s → IsBlankedSource x s t → after ≡ slice_set before i t → AreBlanked x i before after

-- the texts are the same but for white space in the file that has the number
abbrev pub HasBlanked : Extent → unit.Unit → unit.Unit → Option ℕ → Type 0
HasBlanked x u v None = (v.text.items ≡ blanked x.start x.end u.text.items) × (v.sources.items ≡ u.sources.items)
HasBlanked x u v (Some i) = (v.text.items ≡ u.text.items) × AreBlanked x i u.sources.items v.sources.items

-- a unit is another one with white space in place of these bytes
pub record IsBlanked (x : Extent) (u v : unit.Unit) : Type 0 where
  pub path : v.path ≡ u.path
  pub known : v.known ≡ u.known
  pub order : v.order ≡ u.order
  pub texts : HasBlanked x u v (index_of u x.file)
