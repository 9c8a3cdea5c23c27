-- How much of logs is told, at most.
use Rattle.std.specs.Prelude.{ℕ}

-- the different requests that are counted
abbrev pub most_requests : ℕ
most_requests = 1000000
