-- What `merge` prints.
-- Source: own.
use Rattle.std.specs.Prelude.{ℕ, ◌≡◌, ◌++◌, List, [], ◌∷◌, codes, Bool, Option, Some, None, IfSome, Ok, MatchOption}
use Rattle.std.specs.List.{AllZip}
use Rattle.aa_files.specs.Texts.{texts, slices}
use Rattle.aa_base.specs.declared.unread.Unread.{Unread}
use Rattle.aa_base.specs.declared.unread.Unread.TheVariants.{TooLarge}
use Rattle.aa_logs.specs.LogLines.{log_lines}
use Rattle.aa_command.specs.LogFiles.{LogFiles}
use Rattle.aa_command.specs.Printed.{Printed, faults_alone}
use Rattle.aa_command.specs.Refusals.{SaysFault, SaysUnread}
use Rattle.aa_log.specs.declared.command.LogOptions.{LogOptions}
use Rattle.aa_log.specs.declared.said.SaidReport.{SaidReport}
use Rattle.aa_log.specs.Command.{said_printed, IsLogText}
use Rattle.aa_merge.specs.declared.adding.Merging.{Merging}
use Rattle.aa_merge.specs.declared.command.MergeOptions.{MergeOptions}
use Rattle.aa_merge.specs.declared.fault.PartFault.{PartFault}
use Rattle.aa_merge.specs.declared.fault.PartFault.TheVariants.{NoMemory, NotJson, NotAReport, Answered, Unlike, TooMany}
use Rattle.aa_merge.specs.Faults.{IsOfPart}
use Rattle.aa_merge.specs.Held.{IsSaidAs}
use Rattle.aa_merge.specs.Parts.{Report, all_merged, nothing_as}
use Rattle.aa_merge.specs.Reading.{report_of}
use Rattle.aa_merge.specs.Steps.{Refuses}
use Rattle.aa_merge.specs.Wholes.{names_of, IsHeld, IsNotAdded}

-- the part at a path says that: where it is known what lies there, its bytes are that report
abbrev pub IsPartAt : Option LogFiles → List ℕ → Report → Type 0
IsPartAt files path r = IfSome files (λ f. (bytes : List ℕ) × (f path ≡ Some bytes) × (report_of bytes ≡ Ok r))

-- what is held of reports: what they say together, and nothing of none
abbrev pub IsTogether : List Report → Option Merging → Type 0
IsTogether [] None = Unit {0}
IsTogether [] (Some m) = ⊥
IsTogether (r ∷ rs) None = ⊥
IsTogether (r ∷ rs) (Some m) = IsHeld (all_merged r rs) m

-- what is held of the parts at these paths
pub record AreMerged (files : Option LogFiles) (paths : List (List ℕ)) (m : Option Merging) : Type 0 where
  pub reports : List Report
  pub read : AllZip (IsPartAt files) paths reports
  pub held : IsTogether reports m

-- what reports say to which another is added
abbrev pub before_of : List Report → Report → Report
before_of [] more = nothing_as more
before_of (r ∷ rs) more = all_merged r rs

-- why the part at a path isn't merged with those reports
pub data IsRefusedPart (files : Option LogFiles) (before : List Report) (path : List ℕ) (fault : PartFault) : Type 0 where
  NoReport : IfSome files (λ f. (bytes : List ℕ) × (f path ≡ Some bytes) × Refuses fault (report_of bytes)) → IsRefusedPart files before path fault
  NotAdded : (r : Report) → IsPartAt files path r → IsNotAdded (before_of before r) r fault → IsRefusedPart files before path fault

-- one of these paths, where all parts before it are merged
pub record IsFirstUnmerged (files : Option LogFiles) (paths : List (List ℕ)) (path : List ℕ) : Type 0 where
  pub before : List (List ℕ)
  pub behind : List (List ℕ)
  pub are : paths ≡ before ++ path ∷ behind
  pub reports : List Report
  pub read : AllZip (IsPartAt files) before reports

-- that is printed: with 3 where there are too many requests, as `log` has it, else with 1
abbrev pub SaysRefused : List ℕ → PartFault → Printed → Type 0
SaysRefused path NoMemory out = ⊥
SaysRefused path NotJson out = SaysFault (IsOfPart path NotJson) 1 out
SaysRefused path (NotAReport m) out = SaysFault (IsOfPart path (NotAReport m)) 1 out
SaysRefused path Answered out = SaysFault (IsOfPart path Answered) 1 out
SaysRefused path (Unlike m) out = SaysFault (IsOfPart path (Unlike m)) 1 out
SaysRefused path TooMany out = SaysUnread path TooLarge out

-- what is printed of the parts at these paths: that there are none, why the first that isn't merged can't be, or the report of all, as
-- `log` prints it
pub data IsOutputFor (files : Option LogFiles) (is_json : Bool) (paths : List (List ℕ)) (out : Printed) : Type 0 where
  NoPart : paths ≡ [] → out ≡ faults_alone (codes "error: merge takes at least one part\n") 2 → IsOutputFor files is_json paths out
  UnreadPart : (path : List ℕ) (why : Unread) → IsFirstUnmerged files paths path → SaysUnread path why out → IsOutputFor files is_json paths out
  RefusedPart : (path : List ℕ) (fault : PartFault) (first : IsFirstUnmerged files paths path) → IsRefusedPart files first.reports path fault
      → SaysRefused path fault out → IsOutputFor files is_json paths out
  Merged : (r : Report) (rs : List Report) → AllZip (IsPartAt files) paths (r ∷ rs) → (o : LogOptions) (s : SaidReport)
      → IsSaidAs (all_merged r rs) (slices o.logs.now) s → o.is_json ≡ is_json
      → (text : List ℕ) → IsLogText o s text → out ≡ said_printed o s text 0 → IsOutputFor files is_json paths out

-- the paths that a list names, where it is known what lies there
abbrev pub AreListed : Option LogFiles → List ℕ → List (List ℕ) → Type 0
AreListed files path named = IfSome files (λ f. (bytes : List ℕ) × (f path ≡ Some bytes) × (named ≡ names_of (log_lines 0 bytes)))

-- the paths of the command line, and behind them those of the list
pub record AreWanted (files : Option LogFiles) (o : MergeOptions) (paths : List (List ℕ)) : Type 0 where
  pub named : List (List ℕ)
  pub are : paths ≡ texts o.parts.now ++ named
  pub listed : MatchOption o.list (named ≡ []) (λ path. AreListed files path.now named)

-- what `merge` prints: why the list can't be read, or what is printed of the parts
pub data IsMergeOutput (files lists : Option LogFiles) (o : MergeOptions) (out : Printed) : Type 0 where
  UnreadList : (why : Unread) → MatchOption o.list ⊥ (λ path. SaysUnread path.now why out) → IsMergeOutput files lists o out
  Named : (paths : List (List ℕ)) → AreWanted lists o paths → IsOutputFor files o.is_json paths out → IsMergeOutput files lists o out
