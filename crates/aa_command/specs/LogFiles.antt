-- Logs where they lie, and their lines.
-- Source: own.
use Rattle.std.specs.Prelude.{ℕ, ◌≡◌, ◌+◌, List, [], ◌∷◌, ◌++◌, Option, Some}
use Rattle.std.specs.List.{AllZip}
use Rattle.aa_logs.specs.LogLines.{LogLine, log_lines}

-- the bytes of the log at each path, if there is one
abbrev pub LogFiles : Type 0
LogFiles = List ℕ → Option (List ℕ)

-- the bytes of the logs at some paths, in order
abbrev pub AreLogs : LogFiles → List (List ℕ) → List (List ℕ) → Type 0
AreLogs files paths logs = AllZip (λ path bytes. files path ≡ Some bytes) paths logs

-- their lines, where the first log has that number
unfoldable pub lines_from : ℕ → List (List ℕ) → List LogLine
lines_from n [] = []
lines_from n (bytes ∷ logs) = log_lines n bytes ++ lines_from (n + 1) logs
