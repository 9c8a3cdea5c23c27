-- The tasks that logs give, one log after another, and what is printed of them.
use Rattle.std.proofs.Common.{◌≡◌, ℕ, ◌+◌, ◌<◌, ◌≤◌, List, [], ◌∷◌, ◌++◌, length, take, drop, get_or, flat_map, false, Option, Some, None, IfSome, Bor, Result, IfOk, refl, ap, sym, subst, ◌∙◌}
use Rattle.std.proofs.lemmas.List.{append-nil, take_all}
use Rattle.std.proofs.lemmas.Grind.{flat_map-append}
use Rattle.std.proofs.lemmas.Result.{IfOk-weaker}
use Rattle.aa_files.specs.Texts.{slices}
use Rattle.aa_logs.specs.declared.chosen.Choice.{Choice}
use Rattle.aa_text.specs.declared.memory.NoMemory.{NoMemory}
use Rattle.aa_files.specs.declared.unit.Source.{Source}
use Rattle.aa_logs.specs.declared.task.LogTask.{LogTask}
use Rattle.aa_logs.specs.LogLines.{LogLine, log_lines}
use Rattle.aa_notation.specs.declared.job.JobPolicy.{JobPolicy}
use Rattle.aa_notation.specs.Jobs.{left_out}
use Rattle.aa_job.specs.declared.job.JobTasks.{JobTasks}
use Rattle.aa_job.specs.Tasks.{HasSameSettings, HasTaken}
use Rattle.aa_job.specs.Jobs.{IsJobWritten}
use Rattle.aa_command.specs.declared.output.Output.{Output}
use Rattle.aa_command.specs.Printed.{printed}
use Rattle.aa_command.specs.LogFiles.{LogFiles, AreLogs}
use Rattle.aa_job.specs.Command.{job_written, IsTasksOutput, Written, AreTasksOf, IsFirstUnreadOf}
use Rattle.aa_command.proofs.Lying.{logs_more, path_behind}

lines_none : (lying : Option LogFiles) (t : JobTasks) → HasTaken t [] → IfSome lying (λ files. (logs : List (List ℕ)) × AreLogs files [] logs × HasTaken t (flat_map (log_lines 0) logs))
lines_none None t is = tt
lines_none (Some files) t is = ([], tt, is)

-- what tasks have of logs, of which none is read yet
pub tasks_none : (lying : Option LogFiles) (t : JobTasks) → HasTaken t [] → AreTasksOf lying t.policies.now t.choice [] t
tasks_none lying t is = record { policies = refl; chosen = refl; taken = lines_none lying t is }

-- what a log adds to tasks
abbrev pub AddsLog : Option LogFiles → List ℕ → JobTasks → JobTasks → Type 0
AddsLog lying path old new = IfSome lying (λ files. (bytes : List ℕ) × (files path ≡ Some bytes) × ((before : List LogLine) → HasTaken old before → HasTaken new (before ++ log_lines 0 bytes)))

lines_more : (lying : Option LogFiles) (paths : List (Bor (List ℕ))) (i : ℕ) (d path : Bor (List ℕ)) (old new : JobTasks) → i < length paths → path ≡ get_or paths i d → AddsLog lying path.now old new
    → IfSome lying (λ files. (logs : List (List ℕ)) × AreLogs files (slices (take i paths)) logs × HasTaken old (flat_map (log_lines 0) logs))
    → IfSome lying (λ files. (logs : List (List ℕ)) × AreLogs files (slices (take (i + 1) paths)) logs × HasTaken new (flat_map (log_lines 0) logs))
lines_more None paths i d path old new lt item adds found = tt
lines_more (Some files) paths i d path old new lt item adds found =
    let logs = found.0 in
    let bytes = adds.0 in
    let lines : flat_map (log_lines 0) (logs ++ bytes ∷ []) ≡ flat_map (log_lines 0) logs ++ log_lines 0 bytes =
    flat_map-append (log_lines 0) logs (bytes ∷ []) ∙ ap (λ (l : List LogLine). flat_map (log_lines 0) logs ++ l) (append-nil (log_lines 0 bytes)) in
    (logs ++ bytes ∷ [], logs_more files paths i d path logs bytes lt item adds.1 found.1, subst (λ (ls : List LogLine). HasTaken new ls) (sym lines) (adds.2 (flat_map (log_lines 0) logs) found.2))

pub tasks_more : (lying : Option LogFiles) (ps : List JobPolicy) (choice : Choice) (paths : List (Bor (List ℕ))) (i : ℕ) (d path : Bor (List ℕ)) (old new : JobTasks) → i < length paths → path ≡ get_or paths i d
    → AddsLog lying path.now old new → HasSameSettings old new → AreTasksOf lying ps choice (slices (take i paths)) old → AreTasksOf lying ps choice (slices (take (i + 1) paths)) new
tasks_more lying ps choice paths i d path old new lt item adds same found = record {
  policies = ap (λ (b : Bor (List JobPolicy)). b.now) same.0 ∙ found.policies;
  chosen = same.1 ∙ found.chosen;
  taken = lines_more lying paths i d path old new lt item adds found.taken;
}

pub tasks_all : (lying : Option LogFiles) (ps : List JobPolicy) (choice : Choice) (paths : List (Bor (List ℕ))) (i : ℕ) (t : JobTasks) → length paths ≤ i
    → AreTasksOf lying ps choice (slices (take i paths)) t → AreTasksOf lying ps choice (slices paths) t
tasks_all lying ps choice paths i t le found = subst (λ (l : List (Bor (List ℕ))). AreTasksOf lying ps choice (slices l) t) (take_all i paths le) found

-- the path of that number, behind those whose logs are read
pub unread_behind : (lying : Option LogFiles) (ps : List JobPolicy) (choice : Choice) (paths : List (Bor (List ℕ))) (i : ℕ) (d path : Bor (List ℕ)) (t : JobTasks) → i < length paths → path ≡ get_or paths i d
    → AreTasksOf lying ps choice (slices (take i paths)) t → IsFirstUnreadOf lying ps choice (slices paths) path.now
unread_behind lying ps choice paths i d path t lt item found = record {
  before = slices (take i paths);
  behind = slices (drop (i + 1) paths);
  are = path_behind paths i d path lt item;
  tasks = t;
  read = found;
}

-- the same by other names of the policies and of the choice
pub tasks_for : (lying : Option LogFiles) (qs ps : List JobPolicy) (before choice : Choice) (paths : List (List ℕ)) (t : JobTasks) → qs ≡ ps → before ≡ choice
    → AreTasksOf lying qs before paths t → AreTasksOf lying ps choice paths t
tasks_for lying qs ps before choice paths t p q found = record { policies = found.policies ∙ p; chosen = found.chosen ∙ q; taken = found.taken }

pub unread_for : (lying : Option LogFiles) (qs ps : List JobPolicy) (before choice : Choice) (paths : List (List ℕ)) (path : List ℕ) → qs ≡ ps → before ≡ choice
    → IsFirstUnreadOf lying qs before paths path → IsFirstUnreadOf lying ps choice paths path
unread_for lying qs ps before choice paths path p q unread = record {
  before = unread.before;
  behind = unread.behind;
  are = unread.are;
  tasks = unread.tasks;
  read = tasks_for lying qs ps before choice unread.before unread.tasks p q unread.read;
}

pub tasks_written : (ps : List JobPolicy) (sources : List Source) (states : ℕ) (t : JobTasks) (listed : List LogTask) (old text : List ℕ) (left : ℕ) (r : Result Output NoMemory)
    → t.is_too_large ≡ false → listed ≡ t.tasks.items → old ≡ [] → IsJobWritten ps sources listed states old text → left ≡ left_out listed
    → IfOk r (λ (o : Output). printed o ≡ job_written text (length ps) left t.strangers) → IfOk r (λ (o : Output). IsTasksOutput ps sources states t (printed o))
tasks_written ps sources states t listed old text left r fits same empty job is says =
    IfOk-weaker r (λ (o : Output). printed o ≡ job_written text (length ps) left t.strangers) (λ (o : Output). IsTasksOutput ps sources states t (printed o)) (λ o e.
    Written fits text (subst (λ (l : List LogTask). IsJobWritten ps sources l states [] text) same (subst (λ (l : List ℕ). IsJobWritten ps sources listed states l text) empty job))
    (e ∙ ap (λ (n : ℕ). job_written text (length ps) n t.strangers) (is ∙ ap left_out same))) says
