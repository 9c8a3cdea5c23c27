-- Reports as they lie in memory, as they are read and as they are put together.
-- Source: own.
use Rattle.std.specs.Prelude.{ℕ, ◌≡◌, ◌≤◌, List, ◌++◌, length, map, Option, Some, option_map, slice_get, Vec}
use Rattle.std.specs.HashMap.{HashMap}
use Rattle.aa_log.specs.Limits.{most_requests}
use Rattle.aa_log.specs.Counted.{Counted}
use Rattle.aa_log.specs.Found.{entry_key, AreNumbered, HaveWords}
use Rattle.aa_log.specs.declared.logging.Entry.{Entry}
use Rattle.aa_log.specs.declared.logging.LinePlace.{LinePlace}
use Rattle.aa_log.specs.declared.logging.SkippedLines.{SkippedLines}
use Rattle.aa_log.specs.declared.said.SaidReport.{SaidReport}
use Rattle.aa_merge.specs.declared.part.PartRow.{PartRow}
use Rattle.aa_merge.specs.declared.part.PartSkipped.{PartSkipped}
use Rattle.aa_merge.specs.declared.part.PartUnclear.{PartUnclear}
use Rattle.aa_merge.specs.declared.part.Part.{Part}
use Rattle.aa_merge.specs.Parts.{Asking, Passed, Unclear, Report}
use Rattle.aa_log.specs.Joined.{total}

-- ---- a part that is read

-- a row of requests, without where it lies in memory
abbrev pub row_data : PartRow → Counted Asking
row_data r = record { item = record { became = r.then; profile = r.profile.items; request = r.request; path = r.path.items; line = r.line }; count = r.count }

-- lines that ask nothing, likewise
abbrev pub passed_data : PartSkipped → Counted Passed
passed_data s = record { item = record { order = s.reason.0; name = s.reason.1.now; path = s.path.items; line = s.line }; count = s.count }

-- lines that aren't understood, likewise
abbrev pub unclear_data : PartUnclear → Unclear
unclear_data u = record { count = u.count; path = u.path.items; line = u.line }

-- a part, likewise
abbrev pub part_data : Part → Report
part_data p = record {
  requests = map row_data p.requests.items;
  skipped = map passed_data p.skipped.items;
  each = option_map (λ each. map passed_data each.items) p.each;
  lines = p.lines;
  asking = p.asking;
  other = p.other;
  left_out = p.left_out;
  unclear = option_map unclear_data p.unclear;
}

-- ---- the report that is made of parts: its places name logs by their numbers among these paths

-- a request with the path of its first place, where the log of that number has one
abbrev pub entry_row : List (List ℕ) → Entry → Option (Counted Asking)
entry_row paths e = option_map
    (λ path. record { item = record { became = e.then; profile = e.profile.items; request = e.request; path = path; line = e.first.line }; count = e.count })
    (slice_get paths e.first.log)

-- lines that ask nothing, likewise
abbrev pub skipped_row : List (List ℕ) → SkippedLines → Option (Counted Passed)
skipped_row paths s = option_map
    (λ path. record { item = record { order = s.reason.0; name = s.reason.1.now; path = path; line = s.first.line }; count = s.count })
    (slice_get paths s.first.log)

-- lines that aren't understood, likewise
abbrev pub unclear_row : List (List ℕ) → ℕ → LinePlace → Option Unclear
unclear_row paths count first = option_map (λ path. record { count = count; path = path; line = first.line }) (slice_get paths first.log)

-- there may be more paths behind these
abbrev pub HasMore : List (List ℕ) → List (List ℕ) → Type 0
HasMore paths all = (more : List (List ℕ)) × (all ≡ paths ++ more)

-- the entry is of that row, and its first place in the log of that number
pub record IsEntryOf (r : PartRow) (log : ℕ) (e : Entry) : Type 0 where
  pub became : e.then ≡ r.then
  pub profile : e.profile.items ≡ r.profile.items
  pub request : e.request ≡ r.request
  pub count : e.count ≡ r.count
  pub first : e.first ≡ record { log = log; line = r.line }

-- requests are these rows, and are found by their keys; there are no more than 1,000,000
pub record AreRows {Y S : Type 0} (rows : List (Counted Asking)) (paths : List (List ℕ)) (es : List Entry)
    (numbers : HashMap (Vec ℕ Y) ℕ S) : Type 0 where
  pub rows_are : map (entry_row paths) es ≡ map Some rows
  pub words : HaveWords es
  pub numbered : AreNumbered numbers (map entry_key es)
  pub within : length es ≤ most_requests

-- a report at these paths says that
pub record IsSaidAs (m : Report) (paths : List (List ℕ)) (s : SaidReport) : Type 0 where
  pub requests : map (entry_row paths) s.report.entries.items ≡ map Some m.requests
  pub skipped : map (skipped_row paths) s.report.skipped.items ≡ map Some m.skipped
  pub each : option_map (λ each. map (skipped_row paths) each.items) s.report.each_skipped ≡ option_map (map Some) m.each
  pub lines : s.report.lines ≡ m.lines
  pub asking : s.report.requests ≡ m.asking
  pub skipped_count : s.report.skipped_count ≡ total m.skipped
  pub other : s.report.other ≡ m.other
  pub left_out : s.report.left_out ≡ m.left_out
  pub unclear : option_map (unclear_row paths s.unclear) s.first_unclear ≡ option_map Some m.unclear
