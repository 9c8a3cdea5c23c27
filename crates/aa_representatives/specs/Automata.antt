-- Automata of patterns that are known elsewhere.
-- Source: own.
use Rattle.std.specs.Prelude.{◌≡◌, ℕ, List, length}
use Rattle.aa_pattern.specs.declared.pattern.Pattern.{Pattern}
use Rattle.aa_auto.specs.Tables.{Table}
use Rattle.aa_auto.specs.Pairs.{IsBuilt}

-- the automaton of some patterns, which are so many
abbrev pub IsOfSome : ℕ → Table → Type 0
IsOfSome count t = (ps : List Pattern) × (length ps ≡ count) × IsBuilt ps t
