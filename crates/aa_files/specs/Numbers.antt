-- The texts of a unit by the numbers that places in its policy have.
-- Source: own.
use Rattle.std.specs.Prelude.{ℕ, ◌-◌, ◌==◌, List, flat_map, Option, Some, None, option_map, option_to_list, slice_get, if◌then◌else◌}
use Rattle.std.specs.Option.{option_and_then}
use Rattle.aa_files.specs.declared.unit.Source.{Source}
use Rattle.aa_files.specs.declared.unit.Unit as unit

-- number 0 is the main text, and the sources count from 1, in the order of their names
abbrev pub source_in : List ℕ → List Source → ℕ → Option Source
source_in order sources n = if n == 0 then None else option_and_then (λ i. slice_get sources i) (slice_get order (n - 1))

-- the source with that number
abbrev pub source_in_unit : unit.Unit → ℕ → Option Source
source_in_unit u n = source_in u.order.items u.sources.items n

-- the path of a source, or the main text's
abbrev pub path_or : List ℕ → Option Source → List ℕ
path_or main None = main
path_or main (Some s) = s.path.items

-- the text of a source, or the main one
abbrev pub text_or : List ℕ → Option Source → List ℕ
text_or main None = main
text_or main (Some s) = s.text.items

-- the path and the text of a number
abbrev pub path_in : unit.Unit → ℕ → List ℕ
path_in u n = path_or u.path.items (source_in_unit u n)

-- the text with that number
abbrev pub text_in : unit.Unit → ℕ → List ℕ
text_in u n = text_or u.text.items (source_in_unit u n)

-- a source's name and text
abbrev pub named_text : Source → List ℕ × List ℕ
named_text s = (s.name.items, s.text.items)

-- the name and text of the source at that place, if there is one
abbrev pub named_texts_at : List Source → ℕ → List (List ℕ × List ℕ)
named_texts_at sources i = option_to_list (option_map named_text (slice_get sources i))

-- the names and texts of the sources, in the order in which they are numbered
abbrev pub named_texts : List ℕ → List Source → List (List ℕ × List ℕ)
named_texts order sources = flat_map (named_texts_at sources) order
