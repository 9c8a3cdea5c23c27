-- The lines of logs.
-- Source: own.
use Rattle.std.specs.Prelude.{ℕ, ◌+◌, ◌==◌, not, List, [], ◌∷◌, ◌++◌, map, take, Bool, if◌then◌else◌}

-- a line of a log: which log of the command line's, from 0, which line, from 1, and its bytes
pub record LogLine : Type 0 where
  pub log : ℕ
  pub number : ℕ
  pub bytes : List ℕ

-- a line of a log, with its number
abbrev pub log_line : ℕ → ℕ → List ℕ → LogLine
log_line log number bytes = record { log = log; number = number; bytes = bytes }

-- a byte in front of the first of lines
abbrev pub in_front : ℕ → List (List ℕ) → List (List ℕ)
in_front b [] = (b ∷ []) ∷ []
in_front b (line ∷ lines) = (b ∷ line) ∷ lines

-- the lines of bytes: each LF ends one and is none of its bytes; behind the last LF stands a line unless nothing does
unfoldable pub lines_of : List ℕ → List (List ℕ)
lines_of [] = []
lines_of (b ∷ bs) = if b == 10 then [] ∷ lines_of bs else in_front b (lines_of bs)

-- what is kept of a line: one byte more than a line may have
unfoldable pub kept : List ℕ → List ℕ
kept line = take 65537 line

-- lines of a log, the first of that number
unfoldable pub numbered : ℕ → ℕ → List (List ℕ) → List LogLine
numbered log number [] = []
numbered log number (line ∷ lines) = log_line log number line ∷ numbered log (number + 1) lines

-- the lines of a log, as far as each is kept
abbrev pub log_lines : ℕ → List ℕ → List LogLine
log_lines log bytes = numbered log 1 (map kept (lines_of bytes))

-- a byte that ends no line
abbrev pub is_in_line : ℕ → Bool
is_in_line b = not (b == 10)

-- the lines that end among bytes, by what the first of them has already
unfoldable pub ended : List ℕ → List ℕ → List (List ℕ)
ended front [] = []
ended front (b ∷ bs) = if b == 10 then front ∷ ended [] bs else ended (front ++ b ∷ []) bs

-- what stands behind the last line end among bytes
unfoldable pub left_open : List ℕ → List ℕ → List ℕ
left_open front [] = front
left_open front (b ∷ bs) = if b == 10 then left_open [] bs else left_open (front ++ b ∷ []) bs

-- a last line without an end
abbrev pub last_line : List ℕ → List (List ℕ)
last_line [] = []
last_line (b ∷ bs) = (b ∷ bs) ∷ []
