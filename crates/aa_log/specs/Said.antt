-- What is found in logs by what their lines say, and which lines aren't understood.
-- Source: own.
use Rattle.std.specs.Prelude.{ℕ, ◌≡◌, List, [], ◌++◌, find, count_by, min, codes, Option, Some, None, option_map}
use Rattle.aa_logs.specs.LogLines.{LogLine}
use Rattle.aa_messages.specs.Said.{all_said}
use Rattle.aa_messages.specs.Unclear.{is_unclear_line}
use Rattle.aa_log.specs.declared.logging.LinePlace.{LinePlace}
use Rattle.aa_log.specs.declared.said.SaidReport.{SaidReport}
use Rattle.aa_log.specs.Counted.{greatest}
use Rattle.aa_log.specs.Found.{place_of, HasSameSettings, IsReport}
use Rattle.aa_log.specs.Printed.{labelled, place_text}

-- what is found in these lines, and in no others: what they say, how many aren't understood, and which is the first of these
pub record IsSaid (ls : List LogLine) (s : SaidReport) : Type 0 where
  pub found : IsReport (all_said ls) s.report
  pub unclear : s.unclear ≡ min (count_by is_unclear_line ls) greatest
  pub first : s.first_unclear ≡ option_map place_of (find is_unclear_line ls)

-- the same lines are wanted
abbrev pub HasSaidTheSame : SaidReport → SaidReport → Type 0
HasSaidTheSame first s = HasSameSettings first.report s.report

-- how many lines aren't understood, and where the first is
unfoldable pub unclear_line : List (List ℕ) → ℕ → LinePlace → List ℕ
unclear_line logs count first = labelled (codes "warning: lines that aren't understood: ") count ++ codes ", the first at " ++ place_text logs first ++ codes "\n"

-- what is warned of: lines that aren't understood, where there are some
abbrev pub unclear_by : List (List ℕ) → ℕ → Option LinePlace → List ℕ
unclear_by logs count None = []
unclear_by logs count (Some first) = unclear_line logs count first

-- that of what is found in logs
abbrev pub unclear_text : List (List ℕ) → SaidReport → List ℕ
unclear_text logs s = unclear_by logs s.unclear s.first_unclear

-- 1 where a line isn't understood, else what else would be
abbrev pub status_or : Option LinePlace → ℕ → ℕ
status_or None status = status
status_or (Some first) status = 1
