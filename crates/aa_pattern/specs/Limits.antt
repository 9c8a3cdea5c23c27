-- How much is matched together, at most.
use Rattle.std.specs.Prelude.{ℕ}

-- the patterns of one list
abbrev pub most_patterns : ℕ
most_patterns = 65535

-- the states of their automaton
abbrev pub most_states : ℕ
most_states = 1000000
