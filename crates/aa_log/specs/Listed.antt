-- What logs say, in JSON.
-- Source: own.
use Rattle.std.specs.Prelude.{ℕ, ◌≡◌, List, [], ◌++◌, map, codes, decimal, Option, Some, None, option_map, slice_get, unwrap_or, Vec}
use Rattle.std.specs.declared.alloc.Global.{Global}
use Rattle.aa_text.specs.Jsons.{json_bytes, key_text, member_text, member_if, list_text}
use Rattle.aa_logs.specs.Answers.{then_name}
use Rattle.aa_log.specs.declared.logging.LinePlace.{LinePlace}
use Rattle.aa_log.specs.declared.logging.Entry.{Entry}
use Rattle.aa_log.specs.declared.logging.SkippedLines.{SkippedLines}
use Rattle.aa_log.specs.declared.said.SaidReport.{SaidReport}
use Rattle.aa_log.specs.Orders.{profile_of, reason_key, IsInOrder}
use Rattle.aa_log.specs.Printed.{reason_of}

-- a member whose value is a word that needs no escape
unfoldable pub word_member : List ℕ → List ℕ → List ℕ
word_member key word = key_text key ++ codes "\"" ++ word ++ codes "\""

-- the log by its path, and the line
unfoldable pub place_members : List (List ℕ) → LinePlace → List ℕ
place_members logs place = member_text (codes "path") (json_bytes (unwrap_or (slice_get logs place.log) [])) ++ member_text (codes "line") (decimal place.line)

-- a request's members: what became of it, who asked what, how often, where first
unfoldable pub entry_members : List (List ℕ) → Entry → List ℕ
entry_members logs e =
    word_member (codes "then") (then_name e.then) ++ member_text (codes "profile") (json_bytes e.profile.items)
    ++ member_text (codes "request") (json_bytes e.word.items) ++ member_text (codes "count") (decimal e.count) ++ place_members logs e.first

-- a request of logs, as JSON
unfoldable pub json_entry : List (List ℕ) → Entry → List ℕ
json_entry logs e = codes "{" ++ entry_members logs e ++ codes "}"

-- skipped lines, as JSON
unfoldable pub json_skipped : List (List ℕ) → SkippedLines → List ℕ
json_skipped logs s =
    codes "{" ++ word_member (codes "reason") (reason_of s) ++ member_text (codes "count") (decimal s.count) ++ place_members logs s.first ++ codes "}"

-- requests, as a list
abbrev pub entries_list : List (List ℕ) → List Entry → List ℕ
entries_list logs es = list_text (map (json_entry logs) es)

-- skipped lines, as a list
abbrev pub skipped_list : List (List ℕ) → List SkippedLines → List ℕ
skipped_list logs skipped = list_text (map (json_skipped logs) skipped)

-- the member of the lines that ask nothing, by their reasons; that of each of them; and the member of the requests, which begins the object
unfoldable pub json_by_reason : List (List ℕ) → List SkippedLines → List ℕ
json_by_reason logs reasons = codes "," ++ key_text (codes "skipped") ++ skipped_list logs reasons

-- the list of skipped lines, as a member
unfoldable pub json_each_of : List (List ℕ) → List SkippedLines → List ℕ
json_each_of logs each = codes "," ++ key_text (codes "skipped_lines") ++ skipped_list logs each

-- the requests of logs, as JSON
unfoldable pub json_requests : List (List ℕ) → List Entry → List ℕ
json_requests logs es = codes "{" ++ key_text (codes "requests") ++ entries_list logs es

-- each line that asks nothing, where these are wanted
abbrev pub json_each : List (List ℕ) → Option (Vec SkippedLines Global) → List ℕ
json_each logs None = []
json_each logs (Some each) = json_each_of logs each.items

-- how many lines aren't understood and where the first is, as JSON
unfoldable pub json_unclear : List (List ℕ) → ℕ → LinePlace → List ℕ
json_unclear logs count first = codes "{" ++ key_text (codes "count") ++ decimal count ++ place_members logs first ++ codes "}"

-- the member of these lines, where there are some
abbrev pub unclear_member : List (List ℕ) → ℕ → Option LinePlace → List ℕ
unclear_member logs count None = []
unclear_member logs count (Some first) = member_text (codes "unclear") (json_unclear logs count first)

-- the counts of all, and the end of the object and of the line
unfoldable pub json_totals : List (List ℕ) → SaidReport → List ℕ
json_totals logs s =
    member_text (codes "lines") (decimal s.report.lines) ++ member_text (codes "asking") (decimal s.report.requests) ++ member_text (codes "other") (decimal s.report.other)
    ++ member_if (codes "left_out") (option_map decimal s.report.left_out) ++ unclear_member logs s.unclear s.first_unclear ++ codes "}\n"

-- the lines that ask nothing by their reasons, each of them where these are wanted, and the counts of all
abbrev pub json_rest : List (List ℕ) → List SkippedLines → SaidReport → List ℕ
json_rest logs reasons s = json_by_reason logs reasons ++ json_each logs s.report.each_skipped ++ json_totals logs s

-- what is printed of logs as one JSON object and a line end: the requests in order, and behind them the rest
pub record IsJsonReport (logs : List (List ℕ)) (s : SaidReport) (text : List ℕ) : Type 0 where
  pub entries : List Entry
  pub ordered : IsInOrder profile_of s.report.entries.items entries
  pub reasons : List SkippedLines
  pub by_reason : IsInOrder reason_key s.report.skipped.items reasons
  pub printed : text ≡ json_requests logs entries ++ json_rest logs reasons s
