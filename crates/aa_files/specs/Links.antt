-- How a place in a text of a unit is told, and the way to it.
-- Source: own.
use Rattle.std.specs.Prelude.{ℕ, ◌≡◌, ◌⊎◌, List, [], ◌∷◌, map, flat_map, Bool, Option, Some, None, if◌then◌else◌}
use Rattle.aa_text.specs.Places.{place_in}
use Rattle.aa_text.specs.Excerpts.{excerpt_of}
use Rattle.aa_text.specs.declared.position.PlaceAt.{PlaceAt}
use Rattle.aa_text.specs.declared.fault.Link.{Link}
use Rattle.aa_files.specs.declared.unit.Unit as unit
use Rattle.aa_files.specs.declared.trail.Step.{Step}
use Rattle.aa_files.specs.Nodes.{path_of_node, text_of_node, is_folder_node}
use Rattle.aa_files.specs.Trails.{IsTrail, IsWay}

-- a byte of a text with its line and column
abbrev pub stands_at : List ℕ → ℕ → PlaceAt
stands_at text byte = record { line = (place_in text byte).line; column = (place_in text byte).column; byte = byte }

-- the place of a byte, if its text is there
abbrev pub place_if : Bool → List ℕ → ℕ → Option PlaceAt
place_if there text byte = if there then Some (stands_at text byte) else None

-- the line with a caret, where there is a place
abbrev pub excerpt_if : Bool → List ℕ → ℕ → List ℕ
excerpt_if there text byte = if there then excerpt_of text byte else []

-- an include on the way, without where it lies in memory
abbrev pub link_data : Link → List ℕ × PlaceAt
link_data l = (l.path.items, l.place)

-- a step's include with its file, unless it stands in the text of a folder
abbrev pub link_at : unit.Unit → Step → List (List ℕ × PlaceAt)
link_at u s = if is_folder_node u s.from then [] else (path_of_node u s.from, stands_at (text_of_node u s.from) s.byte) ∷ []

-- the includes by which a reading first comes to a node, innermost first: a way to it, unless there are none
pub record AreLinks (u : unit.Unit) (node : ℕ) (links : List Link) : Type 0 where
  pub way : List Step
  pub trail : IsTrail u node way
  pub leads : (way ≡ []) ⊎ IsWay u node way
  pub each : map link_data links ≡ flat_map (link_at u) way
