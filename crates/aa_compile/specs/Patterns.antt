-- Patterns, one by one and all of a list.
-- Source: apparmor.d(5), "Globbing".
use Rattle.std.specs.Prelude.{◌≤◌, ℕ, List, Bool}
use Rattle.std.specs.List.{list_all}
use Rattle.aa_pattern.specs.Globs.{is_byte}
use Rattle.aa_pattern.specs.declared.pattern.Pattern.{Pattern}
use Rattle.aa_auto.specs.Tables.{Table, IsAutomaton, rows_of}

-- a pattern of bytes alone
abbrev pub is_literal : Pattern → Bool
is_literal p = list_all is_byte p.items.items

-- an automaton of the patterns needs no more rows than the limit
-- (no texts are counted: of patterns that are refused it is said that there are `limit + 1` texts of which no two have the same
-- places)
abbrev pub HasAutomaton : List Pattern → ℕ → Type 0
HasAutomaton patterns limit = (t : Table) × IsAutomaton patterns t × (rows_of t ≤ limit)
