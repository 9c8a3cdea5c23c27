-- The texts of a unit as the walk over its includes numbers them.
-- Source: own.
use Rattle.std.specs.Prelude.{ℕ, ◌+◌, ◌-◌, ◌==◌, nat_lt, List, Bool, false, Option, Some, None, length, slice_get, if◌then◌else◌}
use Rattle.std.specs.Option.{option_and_then}
use Rattle.aa_files.specs.declared.unit.Source.{Source}
use Rattle.aa_files.specs.declared.unit.Unit as unit
use Rattle.aa_files.specs.Numbers.{source_in_unit, path_or, text_or}
use Rattle.aa_files.specs.Walks.{known_of}

-- node 0 is the main text, and the sources count from 1 in the order in which they were found
abbrev pub source_of_node : unit.Unit → ℕ → Option Source
source_of_node u node = if node == 0 then None else slice_get u.sources.items (node - 1)

-- the path of a node's text
abbrev pub path_of_node : unit.Unit → ℕ → List ℕ
path_of_node u node = path_or u.path.items (source_of_node u node)

-- the text of a node
abbrev pub text_of_node : unit.Unit → ℕ → List ℕ
text_of_node u node = text_or u.text.items (source_of_node u node)

-- a source may stand for a folder, the main text doesn't
abbrev pub folder_or : Option Source → Bool
folder_or None = false
folder_or (Some s) = s.is_folder

-- the node's text is that of a folder
abbrev pub is_folder_node : unit.Unit → ℕ → Bool
is_folder_node u node = folder_or (source_of_node u node)

-- the source with that number is a folder
abbrev pub is_folder_in : unit.Unit → ℕ → Bool
is_folder_in u n = folder_or (source_in_unit u n)

-- the node of the source of that number, if there are so many
abbrev pub node_among : ℕ → ℕ → Option ℕ
node_among count i = if nat_lt i count then Some (i + 1) else None

-- a node, or the main text's
abbrev pub or_main : Option ℕ → ℕ
or_main None = 0
or_main (Some node) = node

-- the node of a number that places have
abbrev pub node_in : unit.Unit → ℕ → ℕ
node_in u n = or_main (option_and_then (node_among (length u.sources.items)) (if n == 0 then None else slice_get u.order.items (n - 1)))

-- the node of the source that a name leads to, if something lies at one of its paths
abbrev pub node_named : unit.Unit → List ℕ → Option ℕ
node_named u name = option_and_then (node_among (length u.sources.items)) (option_and_then (λ (found : Option ℕ). found) (known_of u.known.entries name))
