-- What `log` prints.
-- Source: own.
use Rattle.std.specs.Prelude.{ℕ, ◌≡◌, ◌≢◌, List, [], ◌∷◌, ◌++◌, Bool, Option, IfSome, is_some, MatchBool, if◌then◌else◌}
use Rattle.aa_files.specs.Texts.{texts, slices}
use Rattle.aa_logs.specs.declared.chosen.Choice.{Choice}
use Rattle.aa_logs.specs.declared.counts.Counts.{Counts}
use Rattle.aa_command.specs.declared.decided.Decided.{Decided}
use Rattle.aa_log.specs.declared.said.SaidReport.{SaidReport}
use Rattle.aa_log.specs.Said.{unclear_text, status_or, IsSaid}
use Rattle.aa_log.specs.Printed.{IsReportText}
use Rattle.aa_log.specs.Listed.{IsJsonReport}
use Rattle.aa_log.specs.Against.{IsAgainstText, IsJsonAgainst}
use Rattle.aa_base.specs.declared.unread.Unread.{Unread}
use Rattle.aa_command.specs.Setting.{Setting}
use Rattle.aa_log.specs.declared.command.LogOptions.{LogOptions}
use Rattle.aa_command.specs.Printed.{Printed}
use Rattle.aa_log.specs.Refused.{SaysUnreadLog}
use Rattle.aa_command.specs.LogFiles.{LogFiles, AreLogs, lines_from}
use Rattle.aa_command.specs.Policies.{IsPrintedFor}

-- what is found in logs, as it is wanted: as JSON or as text
abbrev pub IsLogText : LogOptions → SaidReport → List ℕ → Type 0
IsLogText o s text = MatchBool o.is_json (IsJsonReport (slices o.logs.now) s text) (IsReportText (slices o.logs.now) s.report text)

-- the same as a policy answers it now
abbrev pub IsReplayText : LogOptions → SaidReport → Decided → Counts → List ℕ → Type 0
IsReplayText o s d counts text = MatchBool o.is_json (IsJsonAgainst (slices o.logs.now) d o.wants_all s counts text) (IsAgainstText (slices o.logs.now) d o.wants_all s.report counts text)

-- answers, behind what is warned of, with that status or 1 where a line isn't understood
abbrev pub said_printed : LogOptions → SaidReport → List ℕ → ℕ → Printed
said_printed o s text status = record { answers = text; faults = unclear_text (slices o.logs.now) s; refusal = []; status = status_or s.first_unclear status }

-- that is printed, with 4 where something is denied now that wasn't
pub record IsReplayed (o : LogOptions) (s : SaidReport) (d : Decided) (out : Printed) : Type 0 where
  pub counts : Counts
  pub text : List ℕ
  pub is_text : IsReplayText o s d counts text
  pub printed : out ≡ said_printed o s text (if counts.has_newly_denied then 4 else 0)

-- what is printed of logs in which that is found: that, or how the one policy that the files are answers it now
pub data IsReportOutput (s : Setting) (o : LogOptions) (r : SaidReport) (out : Printed) : Type 0 where
  Said : (text : List ℕ) → o.against.now ≡ [] → IsLogText o r text → out ≡ said_printed o r text 0 → IsReportOutput s o r out
  Replayed : o.against.now ≢ [] → IsPrintedFor s (texts o.against.now) (IsReplayed o r) out → IsReportOutput s o r out

-- what is found in the logs at these paths by that choice of lines, with each skipped line where that is wanted: where it is
-- known what lies there, in their lines
pub record IsFoundIn (lying : Option LogFiles) (choice : Choice) (wants_skipped : Bool) (paths : List (List ℕ)) (s : SaidReport) : Type 0 where
  pub chosen : s.report.choice ≡ choice
  pub skipped : is_some s.report.each_skipped ≡ wants_skipped
  pub found : IfSome lying (λ files. (logs : List (List ℕ)) × AreLogs files paths logs × IsSaid (lines_from 0 logs) s)

-- one of these paths, where all logs at the paths before it are read
pub record IsFirstUnreadLog (lying : Option LogFiles) (choice : Choice) (wants_skipped : Bool) (paths : List (List ℕ)) (path : List ℕ) : Type 0 where
  pub before : List (List ℕ)
  pub behind : List (List ℕ)
  pub are : paths ≡ before ++ path ∷ behind
  pub said : SaidReport
  pub read : IsFoundIn lying choice wants_skipped before said

-- what `log` prints: why the first of the logs that isn't read can't be, or what is printed of what is found in them
pub data IsLogOutput (s : Setting) (lying : Option LogFiles) (o : LogOptions) (out : Printed) : Type 0 where
  UnreadLog : (path : List ℕ) (why : Unread) → IsFirstUnreadLog lying o.choice o.wants_skipped (slices o.logs.now) path → SaysUnreadLog path why out → IsLogOutput s lying o out
  Found : (r : SaidReport) → IsFoundIn lying o.choice o.wants_skipped (slices o.logs.now) r → IsReportOutput s o r out → IsLogOutput s lying o out
