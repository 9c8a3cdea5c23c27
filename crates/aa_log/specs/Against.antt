-- How requests of logs are answered now, as it is printed.
-- Source: own.
use Rattle.std.specs.Prelude.{ℕ, ◌≡◌, ◌==◌, ◌||◌, List, [], ◌∷◌, ◌++◌, flat_map, count_by, min, codes, decimal, Bool, if◌then◌else◌, Option, Some, None, option_map}
use Rattle.std.specs.List.{list_any}
use Rattle.aa_compile.specs.Labels.{label_named}
use Rattle.aa_text.specs.Jsons.{member_text, with_commas}
use Rattle.aa_logs.specs.declared.line.Then.{Then}
use Rattle.aa_logs.specs.declared.line.Then.TheVariants as was
use Rattle.aa_logs.specs.declared.answer.Now.{Now}
use Rattle.aa_logs.specs.declared.answer.Now.TheVariants as is
use Rattle.aa_logs.specs.declared.counts.Counts.{Counts}
use Rattle.aa_logs.specs.Answers.{then_name, now_name, changes, is_newly_denied, row_of, column_of}
use Rattle.aa_logs.specs.Counts.{count_in, is_so}
use Rattle.aa_command.specs.declared.decided.Decided.{Decided}
use Rattle.aa_ask.specs.Told.{Told, verdict_on}
use Rattle.aa_ask.specs.Shown.{reasons_text}
use Rattle.aa_ask.specs.Json.{json_verdict}
use Rattle.aa_log.specs.declared.logging.Entry.{Entry}
use Rattle.aa_log.specs.Replayed.{now_for}
use Rattle.aa_log.specs.declared.logging.SkippedLines.{SkippedLines}
use Rattle.aa_log.specs.declared.logging.LogReport.{LogReport}
use Rattle.aa_log.specs.declared.said.SaidReport.{SaidReport}
use Rattle.aa_log.specs.Orders.{profile_of, reason_key, IsInOrder}
use Rattle.aa_log.specs.Counted.{greatest}
use Rattle.aa_log.specs.Printed.{rest_text, arrow_text, count_line, each_skipped_text}
use Rattle.aa_log.specs.Listed.{word_member, entry_members, json_rest}

-- what a request of a log is answered now by the profile of its name
abbrev pub now_of : Decided → Entry → Now
now_of d e = now_for d.policies.now e.profile.items e.request

-- the verdict on it, where there is such a profile
abbrev pub verdict_of : Decided → Entry → Option Told
verdict_of d e = option_map (λ label. verdict_on d label e.request) (label_named d.policies.now 0 e.profile.items)

-- all are shown, or those that are answered otherwise now
abbrev pub is_shown : Decided → Bool → Entry → Bool
is_shown d all e = all || changes e.then (now_of d e)

-- the lines that say why, where there is a verdict
abbrev pub reasons_if : Option Told → List ℕ
reasons_if None = []
reasons_if (Some verdict) = reasons_text verdict

-- a request with its answers then and now, and why it has the one that it has now
unfoldable pub change_text : List (List ℕ) → Entry → Now → Option Told → List ℕ
change_text logs e after verdict = arrow_text e.then after ++ rest_text logs e ++ reasons_if verdict

-- the lines of a request, if it is shown
unfoldable pub shown_text : List (List ℕ) → Decided → Bool → Entry → List ℕ
shown_text logs d all e = if is_shown d all e then change_text logs e (now_of d e) (verdict_of d e) else []

-- one of these requests is denied now that wasn't
abbrev pub IsNewlyDenied : Decided → List Entry → Counts → Type 0
IsNewlyDenied d es counts = counts.has_newly_denied ≡ list_any (λ (e : Entry). is_newly_denied e.then (now_of d e)) es

-- each count is how many of these requests became that and are answered so now, up to the greatest of 64 bits
abbrev pub AreCounted : Decided → List Entry → Counts → Type 0
AreCounted d es counts = (before : Then) (after : Now) → count_in (row_of before) (column_of after) counts.rows ≡ min (count_by (λ (e : Entry). is_so before after e.then (now_of d e)) es) greatest

-- how many became this and are answered that now, and nothing where none are so
unfoldable pub cell_line : Counts → Then → Now → List ℕ
cell_line counts before after = count_line before after (count_in (row_of before) (column_of after) counts.rows)

-- those that became this, by what they are now
unfoldable pub row_text : Counts → Then → List ℕ
row_text counts before = cell_line counts before is.Denied ++ cell_line counts before is.Allowed ++ cell_line counts before is.Granted ++ cell_line counts before is.NoProfile

-- the table of then and now
unfoldable pub rows_text : Counts → List ℕ
rows_text counts = row_text counts was.Denied ++ row_text counts was.Allowed ++ row_text counts was.Granted

-- a count as a JSON object; none where there are none
unfoldable pub json_count : Then → Now → ℕ → List ℕ
json_count before after count =
    codes "{" ++ word_member (codes "then") (then_name before) ++ codes "," ++ word_member (codes "now") (now_name after)
    ++ member_text (codes "count") (decimal count) ++ codes "}"

-- a count as JSON, unless it is 0
abbrev pub json_cell_of : Then → Now → ℕ → List (List ℕ)
json_cell_of before after count = if count == 0 then [] else json_count before after count ∷ []

-- one count of the table
abbrev pub json_cell : Counts → Then → Now → List (List ℕ)
json_cell counts before after = json_cell_of before after (count_in (row_of before) (column_of after) counts.rows)

-- the counts of what became of requests then
abbrev pub json_row : Counts → Then → List (List ℕ)
json_row counts before = json_cell counts before is.Denied ++ json_cell counts before is.Allowed ++ json_cell counts before is.Granted ++ json_cell counts before is.NoProfile

-- all counts of the table
abbrev pub json_cells : Counts → List (List ℕ)
json_cells counts = json_row counts was.Denied ++ json_row counts was.Allowed ++ json_row counts was.Granted

-- the text of those that are shown, in order
unfoldable pub changes_text : List (List ℕ) → Decided → Bool → List Entry → List ℕ
changes_text logs d all es = flat_map (shown_text logs d all) es

-- what is printed of the logs' requests as they are answered now: those that are shown, in order, the skipped lines where these are
-- wanted, and how many have which answers
pub record IsAgainstText (logs : List (List ℕ)) (d : Decided) (all : Bool) (r : LogReport) (counts : Counts) (text : List ℕ) : Type 0 where
  pub entries : List Entry
  pub ordered : IsInOrder profile_of r.entries.items entries
  pub newly : IsNewlyDenied d entries counts
  pub counted : AreCounted d entries counts
  pub printed : text ≡ changes_text logs d all entries ++ each_skipped_text logs r ++ rows_text counts

-- why a request is answered so, where there is a profile that answers it
abbrev pub json_why : Option Told → List ℕ
json_why None = []
json_why (Some verdict) = member_text (codes "answer") (json_verdict verdict)

-- a request with what it is answered now as a JSON object
unfoldable pub json_change : List (List ℕ) → Entry → Now → Option Told → List ℕ
json_change logs e after verdict = codes "{" ++ entry_members logs e ++ codes "," ++ word_member (codes "now") (now_name after) ++ json_why verdict ++ codes "}"

-- that of a request that is shown
abbrev pub json_shown : List (List ℕ) → Decided → Bool → Entry → List (List ℕ)
json_shown logs d all e = if is_shown d all e then json_change logs e (now_of d e) (verdict_of d e) ∷ [] else []

-- those of the requests that are shown, in order
unfoldable pub json_changes : List (List ℕ) → Decided → Bool → List Entry → List (List ℕ)
json_changes logs d all es = flat_map (json_shown logs d all) es

-- the members of the requests that are shown and of the counts, which begin the object
unfoldable pub json_answers : List (List ℕ) → Decided → Bool → List Entry → Counts → List ℕ
json_answers logs d all es counts = codes "{\"requests\":[" ++ with_commas (json_changes logs d all es) ++ codes "],\"counts\":[" ++ with_commas (json_cells counts) ++ codes "]"

-- the same as one JSON object and a line end: the requests that are shown, in order, how many have which answers, the lines that ask
-- nothing, and the counts of all
pub record IsJsonAgainst (logs : List (List ℕ)) (d : Decided) (all : Bool) (s : SaidReport) (counts : Counts) (text : List ℕ) : Type 0 where
  pub entries : List Entry
  pub ordered : IsInOrder profile_of s.report.entries.items entries
  pub reasons : List SkippedLines
  pub by_reason : IsInOrder reason_key s.report.skipped.items reasons
  pub newly : IsNewlyDenied d entries counts
  pub counted : AreCounted d entries counts
  pub printed : text ≡ json_answers logs d all entries counts ++ json_rest logs reasons s
