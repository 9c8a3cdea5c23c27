-- What `log --against` prints where files that are refused are skipped.
-- Source: own.
use Rattle.std.specs.Prelude.{ℕ, ◌≡◌, List, [], ◌∷◌, Option, MatchBool, if◌then◌else◌, Bool}
use Rattle.aa_base.specs.declared.unread.Unread.{Unread}
use Rattle.aa_files.specs.Texts.{texts, slices}
use Rattle.aa_logs.specs.declared.counts.Counts.{Counts}
use Rattle.aa_command.specs.declared.decided.Decided.{Decided}
use Rattle.aa_command.specs.Setting.{Setting}
use Rattle.aa_command.specs.Printed.{Printed}
use Rattle.aa_command.specs.LogFiles.{LogFiles}
use Rattle.aa_skipped.specs.declared.skipped.Skipped.{Skipped}
use Rattle.aa_skipped.specs.Policies.{IsPrintedOf}
use Rattle.aa_log.specs.declared.said.SaidReport.{SaidReport}
use Rattle.aa_log.specs.declared.command.LogOptions.{LogOptions}
use Rattle.aa_log.specs.Refused.{SaysUnreadLog}
use Rattle.aa_log.specs.Command.{said_printed, IsFoundIn, IsFirstUnreadLog}
use Rattle.aa_against.specs.Parted.{OpenData}
use Rattle.aa_against.specs.Texts.{IsPartText, IsJsonPart}

-- what is printed of logs, as it is wanted: as JSON or as text
abbrev pub IsPartSaid : LogOptions → SaidReport → List Skipped → Decided → Counts → List OpenData → List ℕ → Type 0
IsPartSaid o s skipped d counts opens text =
    MatchBool o.is_json (IsJsonPart (slices o.logs.now) d skipped o.wants_all s counts opens text) (IsPartText (slices o.logs.now) d skipped o.wants_all s.report counts opens text)

-- 5 where a request is undecided
abbrev pub open_status : List OpenData → ℕ
open_status [] = 0
open_status (o ∷ os) = 5

-- 4 where something is denied now that wasn't, else that
abbrev pub part_status : Counts → List OpenData → ℕ
part_status counts opens = if counts.has_newly_denied then 4 else open_status opens

-- that is printed, with its status
pub record IsPartReplayed (o : LogOptions) (s : SaidReport) (skipped : List Skipped) (d : Decided) (out : Printed) : Type 0 where
  pub counts : Counts
  pub opens : List OpenData
  pub text : List ℕ
  pub is_text : IsPartSaid o s skipped d counts opens text
  pub printed : out ≡ said_printed o s text (part_status counts opens)

-- what is printed of logs in which that is found, by the one policy of the files that aren't skipped
abbrev pub IsPartAgainst : Setting → LogOptions → SaidReport → Printed → Type 0
IsPartAgainst s o r out = IsPrintedOf s (texts o.against.now) (IsPartReplayed o r) out

-- what `log --against` prints: why the first of the logs that isn't read can't be, or what is printed of what is found in them
pub data IsPartLog (s : Setting) (lying : Option LogFiles) (o : LogOptions) (out : Printed) : Type 0 where
  UnreadLog : (path : List ℕ) (why : Unread) → IsFirstUnreadLog lying o.choice o.wants_skipped (slices o.logs.now) path → SaysUnreadLog path why out → IsPartLog s lying o out
  Found : (r : SaidReport) → IsFoundIn lying o.choice o.wants_skipped (slices o.logs.now) r → IsPartAgainst s o r out → IsPartLog s lying o out
