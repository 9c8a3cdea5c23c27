-- How requests of logs are answered now where files are skipped, as it is printed.
-- Source: own.
use Rattle.std.specs.Prelude.{ℕ, ◌≡◌, ◌==◌, List, [], ◌++◌, map, flat_map, count_by, codes, decimal, Bool, if◌then◌else◌}
use Rattle.aa_text.specs.Jsons.{member_text, list_text}
use Rattle.aa_logs.specs.declared.line.Then.{Then}
use Rattle.aa_logs.specs.declared.line.Then.TheVariants as was
use Rattle.aa_logs.specs.declared.counts.Counts.{Counts}
use Rattle.aa_logs.specs.Answers.{then_name, row_of}
use Rattle.aa_command.specs.declared.decided.Decided.{Decided}
use Rattle.aa_skipped.specs.declared.skipped.Skipped.{Skipped}
use Rattle.aa_log.specs.declared.logging.Entry.{Entry}
use Rattle.aa_log.specs.declared.logging.SkippedLines.{SkippedLines}
use Rattle.aa_log.specs.declared.logging.LogReport.{LogReport}
use Rattle.aa_log.specs.declared.said.SaidReport.{SaidReport}
use Rattle.aa_log.specs.Orders.{profile_of, reason_key, IsInOrder}
use Rattle.aa_log.specs.Printed.{rest_text, each_skipped_text}
use Rattle.aa_log.specs.Listed.{word_member, entry_members, json_rest}
use Rattle.aa_log.specs.Against.{IsNewlyDenied, AreCounted, changes_text, rows_text, json_answers}
use Rattle.aa_undecided.specs.Shown.{doubt_reason}
use Rattle.aa_undecided.specs.Jsons.{json_placed}
use Rattle.aa_against.specs.Parted.{OpenData, decided_among, open_among}

-- what became of a request, and that it is undecided now
unfoldable pub open_arrow : Then → List ℕ
open_arrow before = then_name before ++ codes " -> UNDECIDED"

-- the lines of a request that is undecided
unfoldable pub open_text : List (List ℕ) → OpenData → List ℕ
open_text logs o = open_arrow o.entry.then ++ rest_text logs o.entry ++ doubt_reason o.files

-- that became of the request
abbrev pub became : Then → OpenData → Bool
became before o = row_of before == row_of o.entry.then

-- how many became this and are undecided now; none where there are none
abbrev pub open_line : Then → ℕ → List ℕ
open_line before count = if count == 0 then [] else open_arrow before ++ codes " " ++ decimal count ++ codes "\n"

-- the same of these requests
unfoldable pub open_row : List OpenData → Then → List ℕ
open_row os before = open_line before (count_by (became before) os)

-- by what became of them
unfoldable pub open_rows : List OpenData → List ℕ
open_rows os = open_row os was.Denied ++ open_row os was.Allowed ++ open_row os was.Granted

-- the skipped lines of logs, and how many requests have which answers
unfoldable pub ends_text : List (List ℕ) → LogReport → Counts → List OpenData → List ℕ
ends_text logs r counts os = each_skipped_text logs r ++ rows_text counts ++ open_rows os

-- the requests that are decided and shown, those that are undecided, and the counts
abbrev pub part_text : List (List ℕ) → Decided → List Skipped → Bool → LogReport → List Entry → Counts → List ℕ
part_text logs d skipped all r es counts =
    changes_text logs d all (decided_among d skipped es) ++ flat_map (open_text logs) (open_among d skipped es) ++ ends_text logs r counts (open_among d skipped es)

-- what is printed of the logs' requests: those that are decided as without the skipped files, and the others with the files that could decide
pub record IsPartText (logs : List (List ℕ)) (d : Decided) (skipped : List Skipped) (all : Bool) (r : LogReport) (counts : Counts) (opens : List OpenData) (text : List ℕ) : Type 0 where
  pub entries : List Entry
  pub ordered : IsInOrder profile_of r.entries.items entries
  pub opens_are : opens ≡ open_among d skipped entries
  pub newly : IsNewlyDenied d (decided_among d skipped entries) counts
  pub counted : AreCounted d (decided_among d skipped entries) counts
  pub printed : text ≡ part_text logs d skipped all r entries counts

-- a request that is undecided as a JSON object
unfoldable pub json_open : List (List ℕ) → OpenData → List ℕ
json_open logs o =
    codes "{" ++ entry_members logs o.entry ++ codes "," ++ word_member (codes "now") (codes "UNDECIDED")
    ++ member_text (codes "skipped") (list_text (map json_placed o.files)) ++ codes "}"

-- those of all, as a member
abbrev pub json_opens : List (List ℕ) → List OpenData → List ℕ
json_opens logs os = member_text (codes "undecided") (list_text (map (json_open logs) os))

-- the members of the requests and the counts, which begin the object, and those of what else the logs have
abbrev pub json_part : List (List ℕ) → Decided → List Skipped → Bool → SaidReport → List Entry → List SkippedLines → Counts → List ℕ
json_part logs d skipped all s es reasons counts =
    json_answers logs d all (decided_among d skipped es) counts ++ json_opens logs (open_among d skipped es) ++ json_rest logs reasons s

-- the same as one JSON object and a line end
pub record IsJsonPart (logs : List (List ℕ)) (d : Decided) (skipped : List Skipped) (all : Bool) (s : SaidReport) (counts : Counts) (opens : List OpenData) (text : List ℕ) : Type 0 where
  pub entries : List Entry
  pub ordered : IsInOrder profile_of s.report.entries.items entries
  pub reasons : List SkippedLines
  pub by_reason : IsInOrder reason_key s.report.skipped.items reasons
  pub opens_are : opens ≡ open_among d skipped entries
  pub newly : IsNewlyDenied d (decided_among d skipped entries) counts
  pub counted : AreCounted d (decided_among d skipped entries) counts
  pub printed : text ≡ json_part logs d skipped all s entries reasons counts
