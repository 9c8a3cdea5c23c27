-- Which bytes the rule or assignment at a place has.
-- Source: own.
use Rattle.std.specs.Prelude.{ℕ, nat_lt, ◌+◌, ◌-◌, ◌==◌, ◌≡◌, ◌&&◌, List, length, Bool, true, false, Option, Some, None, slice_get, if◌then◌else◌}
use Rattle.std.specs.Option.{option_and_then}
use Rattle.std.specs.List.{list_all}
use Rattle.aa_base.specs.declared.fault.Spot.{Spot}
use Rattle.aa_base.specs.declared.fault.PolicyFault.{PolicyFault}
use Rattle.aa_words.specs.declared.word.WordKind.{WordKind}
use Rattle.aa_words.specs.declared.word.WordKind.TheVariants.{Comma, Value}
use Rattle.aa_words.specs.declared.word.Span.{Span}
use Rattle.aa_words.specs.Splits.{WordData, Splits}
use Rattle.aa_files.specs.declared.unit.Unit as unit
use Rattle.aa_files.specs.Numbers.{text_in}
use Rattle.aa_policies.specs.Policies.{IsFaultOfSources}
use Rattle.aa_load.specs.UnitPolicy.{texts_of}
use Rattle.aa_faults.specs.declared.extent.Extent.{Extent}
use Rattle.aa_faults.specs.Statements.{statement_at}

-- the byte is a quote
abbrev pub is_quote : Option ℕ → Bool
is_quote (Some b) = b == 34
is_quote None = false

-- quotes stand straight before and behind the word
abbrev pub is_quoted : List ℕ → Span → Bool
is_quoted text s = nat_lt 0 s.start && is_quote (slice_get text (s.start - 1)) && is_quote (slice_get text s.end)

-- where a word begins, with its quote
abbrev pub outer_start : List ℕ → Span → ℕ
outer_start text s = if is_quoted text s then s.start - 1 else s.start

-- where a word ends, with its quote
abbrev pub outer_end : List ℕ → Span → ℕ
outer_end text s = if is_quoted text s then s.end + 1 else s.end

-- all words are of one reading of a file
abbrev pub is_of_one_reading : ℕ → List WordData → Bool
is_of_one_reading reading ws = list_all (λ (w : WordData). w.span.reading == reading) ws

-- a rule ends with a comma, an assignment with a value
abbrev pub is_last : WordKind → Bool
is_last Comma = true
is_last Value = true
is_last _ = false

-- the bytes from the first word of a statement to its last, if these are a rule or an assignment that one reading of a file has
abbrev pub extent_between : unit.Unit → List WordData → WordData → WordData → Option Extent
extent_between u s first last =
    if is_last last.kind && is_of_one_reading first.span.reading s
    then Some (record { file = first.span.file; start = outer_start (text_in u first.span.file) first.span; end = outer_end (text_in u first.span.file) last.span })
    else None

-- the same up to its last word
abbrev pub extent_from : unit.Unit → List WordData → WordData → Option Extent
extent_from u s first = option_and_then (λ last. extent_between u s first last) (slice_get s (length s - 1))

-- the bytes of a statement that is a rule or an assignment
abbrev pub extent_of : unit.Unit → List WordData → Option Extent
extent_of u s = option_and_then (λ first. extent_from u s first) (slice_get s 0)

-- the bytes of the first statement that has a word at the place, if that is a rule or an assignment
abbrev pub extent_among : unit.Unit → Spot → List WordData → Option Extent
extent_among u at ws = option_and_then (extent_of u) (statement_at at ws)

-- the bytes of the rule or assignment at a place of a unit, if its sources can be handed in, its text has words, and one is there
pub data IsExtentAt (u : unit.Unit) (at : Spot) (extent : Option Extent) : Type 0 where
  NoSources : (e : PolicyFault) → IsFaultOfSources (texts_of u) e → extent ≡ None → IsExtentAt u at extent
  NoWords : ((ws : List WordData) → Splits (texts_of u) u.text.items ws → ⊥) → extent ≡ None → IsExtentAt u at extent
  Words : (ws : List WordData) → Splits (texts_of u) u.text.items ws → extent ≡ extent_among u at ws → IsExtentAt u at extent
