-- What `job` prints.
-- Source: own.
use Rattle.std.specs.Prelude.{ℕ, ◌≡◌, ◌≢◌, ◌<◌, ◌≤◌, ◌++◌, nat_lt, List, [], ◌∷◌, length, flat_map, codes, decimal, if◌then◌else◌, Option, IfSome, true, false}
use Rattle.aa_files.specs.Texts.{texts, slices}
use Rattle.aa_base.specs.declared.fault.PolicyFault.{PolicyFault}
use Rattle.aa_logs.specs.declared.chosen.Choice.{Choice}
use Rattle.aa_base.specs.declared.unread.Unread.{Unread}
use Rattle.aa_files.specs.declared.unit.Source.{Source}
use Rattle.aa_files.specs.declared.unit.Unit as unit
use Rattle.aa_files.specs.declared.unit.UnitFault.{UnitFault}
use Rattle.aa_load.specs.UnitPolicy.{limit_of}
use Rattle.aa_files.specs.RootFaults.{IsRootFault}
use Rattle.aa_logs.specs.LogLines.{log_lines}
use Rattle.aa_notation.specs.declared.job.JobPolicy.{JobPolicy}
use Rattle.aa_notation.specs.Jobs.{is_policy_count, left_out}
use Rattle.aa_job.specs.declared.job.JobTasks.{JobTasks}
use Rattle.aa_job.specs.Shared.{AreShared, IsTakenOtherwise, NamedIn}
use Rattle.aa_job.specs.Tasks.{HasTaken}
use Rattle.aa_job.specs.Jobs.{IsJobWritten, IsNoText}
use Rattle.aa_command.specs.Setting.{Setting, AreRoots}
use Rattle.aa_job.specs.declared.command.JobOptions.{JobOptions}
use Rattle.aa_command.specs.Printed.{Printed, faults_alone}
use Rattle.aa_command.specs.Refusals.{SaysUnread, SaysUnitFault, SaysPolicyFault}
use Rattle.aa_command.specs.Loads.{AreLoaded, IsFirstUnread}
use Rattle.aa_command.specs.LogFiles.{LogFiles, AreLogs}
use Rattle.aa_job.specs.Policies.{IsFirstRefused, AreJobPolicies}

-- ---- what is printed of tasks

-- requests that the job doesn't have, and why; nothing where there are none
abbrev pub left_out_line : ℕ → List ℕ → List ℕ
left_out_line count what = if nat_lt 0 count then decimal count ++ what else []

-- what is said where a job has several policies
abbrev pub several_line : ℕ → List ℕ
several_line policies = if nat_lt 1 policies then codes "several policies: no execution goes on in a profile of another file\n" else []

-- what of the policies and of the logs a job doesn't have
abbrev pub remarks : ℕ → ℕ → ℕ → List ℕ
remarks policies left strangers =
    several_line policies ++ left_out_line left (codes " requests left out: they are no UTF-8\n") ++ left_out_line strangers (codes " requests left out: no profile here asks them\n")

-- what is said where a job would be longer than one may be
unfoldable pub long_job : List ℕ
long_job = codes "TooLarge: a job has at most 16,777,216 bytes; name fewer files, or choose fewer lines of the logs by --profile, --since or --until\n"

-- the job, with what it doesn't have, if it isn't too long
abbrev pub job_written : List ℕ → ℕ → ℕ → ℕ → Printed
job_written text policies left strangers =
    if nat_lt 16777216 (length text) then faults_alone long_job 1
    else record { answers = text; faults = remarks policies left strangers; refusal = []; status = 0 }

-- the same of tasks
abbrev pub job_printed : List JobPolicy → JobTasks → List ℕ → Printed
job_printed ps t text = job_written text (length ps) (left_out t.tasks.items) t.strangers

-- what is said where a job can't have so many tasks, or a task so many requests
unfoldable pub many_asked : List ℕ
many_asked = codes "TooLarge: a job has at most 1,024 tasks, and a task 65,536 requests; choose fewer lines of the logs by --profile, --since or --until\n"

-- what is printed of tasks: the job of them, or that a job can't have so many, or that a text is no UTF-8
pub data IsTasksOutput (ps : List JobPolicy) (sources : List Source) (states : ℕ) (t : JobTasks) (out : Printed) : Type 0 where
  TooLarge : t.is_too_large ≡ true → out ≡ faults_alone many_asked 1 → IsTasksOutput ps sources states t out
  NoText : t.is_too_large ≡ false → IsNoText ps sources t.tasks.items → out ≡ faults_alone (codes "NotText: a job holds UTF-8 text alone\n") 1 → IsTasksOutput ps sources states t out
  Written : t.is_too_large ≡ false → (text : List ℕ) → IsJobWritten ps sources t.tasks.items states [] text → out ≡ job_printed ps t text → IsTasksOutput ps sources states t out

-- ---- from the files to the tasks

-- what the logs at these paths give, by these policies and that choice of lines: where it is known what lies there, what their
-- lines ask
pub record AreTasksOf (lying : Option LogFiles) (ps : List JobPolicy) (choice : Choice) (paths : List (List ℕ)) (t : JobTasks) : Type 0 where
  pub policies : t.policies.now ≡ ps
  pub chosen : t.choice ≡ choice
  pub taken : IfSome lying (λ files. (logs : List (List ℕ)) × AreLogs files paths logs × HasTaken t (flat_map (log_lines 0) logs))

-- one of these paths, where all logs at the paths before it are read
pub record IsFirstUnreadOf (lying : Option LogFiles) (ps : List JobPolicy) (choice : Choice) (paths : List (List ℕ)) (path : List ℕ) : Type 0 where
  pub before : List (List ℕ)
  pub behind : List (List ℕ)
  pub are : paths ≡ before ++ path ∷ behind
  pub tasks : JobTasks
  pub read : AreTasksOf lying ps choice before tasks

-- what is printed of policies and of logs: why the first of the logs that isn't read can't be, or what is printed of the tasks
pub data IsLogsOutput (lying : Option LogFiles) (o : JobOptions) (states : ℕ) (ps : List JobPolicy) (sources : List Source) (out : Printed) : Type 0 where
  UnreadLog : (path : List ℕ) (why : Unread) → IsFirstUnreadOf lying ps o.choice (slices o.logs.now) path → SaysUnread path why out → IsLogsOutput lying o states ps sources out
  Tasks : (t : JobTasks) → AreTasksOf lying ps o.choice (slices o.logs.now) t → IsTasksOutput ps sources states t out → IsLogsOutput lying o states ps sources out

-- what is printed of units that include these sources
pub data IsSourcesOutput (folders : List (List ℕ)) (states : ℕ) (lying : Option LogFiles) (o : JobOptions) (us : List unit.Unit) (sources : List Source) (out : Printed) : Type 0 where
  TooMany : 4095 < length sources → out ≡ faults_alone (codes "TooLarge: a job has at most 4,095 included texts; name fewer files\n") 1 → IsSourcesOutput folders states lying o us sources out
  NoPolicy : (u : unit.Unit) (e : PolicyFault) → length sources ≤ 4095 → IsFirstRefused (limit_of states) us u e → SaysPolicyFault folders states u e out → IsSourcesOutput folders states lying o us sources out
  Policies : (ps : List JobPolicy) → length sources ≤ 4095 → AreJobPolicies (limit_of states) us ps → IsLogsOutput lying o states ps sources out → IsSourcesOutput folders states lying o us sources out

-- what is printed of units: no job where one takes a name otherwise than those before it
pub data IsUnitsOutput (folders : List (List ℕ)) (states : ℕ) (lying : Option LogFiles) (o : JobOptions) (us : List unit.Unit) (out : Printed) : Type 0 where
  Otherwise : (e : UnitFault) → NamedIn (IsTakenOtherwise us) e → SaysUnitFault e out → IsUnitsOutput folders states lying o us out
  Shared : (sources : List Source) → AreShared us sources → IsSourcesOutput folders states lying o us sources out → IsUnitsOutput folders states lying o us out

-- what is printed of the files at these paths: a job has 1 to 16 policies
pub data IsPathsOutput (s : Setting) (lying : Option LogFiles) (o : JobOptions) (paths : List (List ℕ)) (out : Printed) : Type 0 where
  NoFile : paths ≡ [] → out ≡ faults_alone (codes "error: no file with profiles is there\n") 1 → IsPathsOutput s lying o paths out
  TooManyFiles : paths ≢ [] → is_policy_count (length paths) ≡ false → out ≡ faults_alone (codes "TooLarge: a job has at most 16 policies; name fewer files\n") 1 → IsPathsOutput s lying o paths out
  NotLoaded : (e : UnitFault) → is_policy_count (length paths) ≡ true → IsFirstUnread s paths e → SaysUnitFault e out → IsPathsOutput s lying o paths out
  Loaded : (us : List unit.Unit) → is_policy_count (length paths) ≡ true → AreLoaded s paths us → IsUnitsOutput s.folders s.states lying o us out → IsPathsOutput s lying o paths out

-- what `job` prints: the job of the files that the arguments stand for and of the logs, or why there is none
pub data IsJobOutput (s : Setting) (lying : Option LogFiles) (o : JobOptions) (out : Printed) : Type 0 where
  NoRoots : (e : UnitFault) → IsRootFault s.files s.taken s.base (texts o.files.now) e → SaysUnitFault e out → IsJobOutput s lying o out
  Rooted : (paths warnings : List (List ℕ)) → AreRoots s (texts o.files.now) paths warnings → IsPathsOutput s lying o paths out → IsJobOutput s lying o out
