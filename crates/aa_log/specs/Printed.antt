-- What logs say, as it is printed.
-- Source: own.
use Rattle.std.specs.Prelude.{ℕ, ◌≡◌, List, [], ◌++◌, ◌==◌, length, flat_map, codes, decimal, if◌then◌else◌, Option, Some, None, option_map, slice_get, unwrap_or}
use Rattle.aa_base.specs.Values.{value}
use Rattle.aa_logs.specs.declared.line.Then.{Then}
use Rattle.aa_logs.specs.declared.answer.Now.{Now}
use Rattle.aa_logs.specs.Answers.{then_name, now_name}
use Rattle.aa_log.specs.declared.logging.LinePlace.{LinePlace}
use Rattle.aa_log.specs.declared.logging.Entry.{Entry}
use Rattle.aa_log.specs.declared.logging.SkippedLines.{SkippedLines}
use Rattle.aa_log.specs.declared.logging.LogReport.{LogReport}
use Rattle.aa_text.specs.Visible.{all_visible}
use Rattle.aa_log.specs.Orders.{profile_of, reason_key, IsInOrder}

-- LOG:LINE, by the paths of the logs as they are shown
abbrev pub place_text : List (List ℕ) → LinePlace → List ℕ
place_text logs place = all_visible (unwrap_or (slice_get logs place.log) []) ++ codes ":" ++ decimal place.line

-- what stands behind what became of a request: its profile, its word, how often it was asked, where first
abbrev pub rest_text : List (List ℕ) → Entry → List ℕ
rest_text logs e = codes " " ++ value e.profile.items ++ codes " " ++ e.word.items ++ codes " " ++ decimal e.count ++ codes " " ++ place_text logs e.first ++ codes "\n"

-- a request as it is told from others: what became of it, whose it is, and its word
unfoldable pub key_text : Then → List ℕ → List ℕ → List ℕ
key_text became profile word = then_name became ++ codes " " ++ value profile ++ codes " " ++ word

-- the line of a request of logs
abbrev pub entry_line : List (List ℕ) → Entry → List ℕ
entry_line logs e = then_name e.then ++ rest_text logs e

-- a reason by its order and name: those of the first order are rules
abbrev pub reason_text : ℕ → List ℕ → List ℕ
reason_text order name = (if order == 0 then codes "rule:" else []) ++ name

-- the text of why lines were skipped
abbrev pub reason_of : SkippedLines → List ℕ
reason_of s = reason_text s.reason.0 s.reason.1.now

-- why lines ask nothing, how many, and where the first is
abbrev pub skipped_line : List (List ℕ) → SkippedLines → List ℕ
skipped_line logs s = codes "skipped " ++ reason_of s ++ codes " " ++ decimal s.count ++ codes " " ++ place_text logs s.first ++ codes "\n"

-- where one such line is, and why
abbrev pub skipped_at : List (List ℕ) → SkippedLines → List ℕ
skipped_at logs s = place_text logs s.first ++ codes ": skipped " ++ reason_of s ++ codes "\n"

-- where each such line is, and why, where these are wanted
abbrev pub each_skipped_text : List (List ℕ) → LogReport → List ℕ
each_skipped_text logs r = unwrap_or (option_map (λ each. flat_map (skipped_at logs) each.items) r.each_skipped) []

-- a count behind what it counts
unfoldable pub labelled : List ℕ → ℕ → List ℕ
labelled what count = what ++ decimal count

-- how many lines were left out
abbrev pub left_out_text : Option ℕ → List ℕ
left_out_text None = []
left_out_text (Some count) = labelled (codes " left out ") count

-- how many lines there are, how many ask, and how many requests are distinct
unfoldable pub asking_text : LogReport → List ℕ
asking_text r = labelled (codes "lines ") r.lines ++ labelled (codes " requests ") r.requests ++ labelled (codes " distinct ") (length r.entries.items)

-- the counts of all: behind those, how many lines ask nothing, how many are others', and how many aren't wanted
unfoldable pub totals_line : LogReport → List ℕ
totals_line r = asking_text r ++ labelled (codes " skipped ") r.skipped_count ++ labelled (codes " other ") r.other ++ left_out_text r.left_out ++ codes "\n"

-- the lines that ask nothing, each where these are wanted, and by their reasons; and the counts of all
abbrev pub counts_text : List (List ℕ) → List SkippedLines → LogReport → List ℕ
counts_text logs reasons r = each_skipped_text logs r ++ flat_map (skipped_line logs) reasons ++ totals_line r

-- what is printed of logs: the requests in order, and behind them the counts
pub record IsReportText (logs : List (List ℕ)) (r : LogReport) (text : List ℕ) : Type 0 where
  pub entries : List Entry
  pub ordered : IsInOrder profile_of r.entries.items entries
  pub reasons : List SkippedLines
  pub by_reason : IsInOrder reason_key r.skipped.items reasons
  pub printed : text ≡ flat_map (entry_line logs) entries ++ counts_text logs reasons r

-- what became of a request, and what it is answered now
abbrev pub arrow_text : Then → Now → List ℕ
arrow_text before after = then_name before ++ codes " -> " ++ now_name after

-- how many are so; none where there are none
abbrev pub count_line : Then → Now → ℕ → List ℕ
count_line before after count = if count == 0 then [] else arrow_text before after ++ codes " " ++ decimal count ++ codes "\n"
