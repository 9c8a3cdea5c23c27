-- Which profile of joined policies has a name.
-- Source: own.
use Rattle.std.specs.Prelude.{ℕ, ◌≡◌, ◌+◌, List, length, option_map}
use Rattle.std.specs.Option.{option_or}
use Rattle.aa_load.specs.Rows.{Rows}
use Rattle.aa_load.specs.Joined.{joined}
use Rattle.aa_load.specs.Faults.{number_of}

-- a name is the first's profile's that has it, or else the second's, at the number to which that one moved
abbrev pub FindsBoth : Type 0
FindsBoth = (first second : Rows) (name : List ℕ)
    → number_of name (joined first second).profiles ≡ option_or (number_of name first.profiles) (option_map (λ n. n + length first.profiles) (number_of name second.profiles))
