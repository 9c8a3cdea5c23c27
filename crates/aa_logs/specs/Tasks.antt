-- The tasks that a log's requests are asked by.
-- Source: own.
use Rattle.std.specs.Prelude.{ℕ, nat_lt, ◌&&◌, ◌==◌, not, List, [], ◌∷◌, ◌++◌, length, map, find, Bool, true, false, Option, Some, None, if◌then◌else◌}
use Rattle.std.specs.Str.{bytes_eq}
use Rattle.aa_model.specs.declared.request.Request.{Request}
use Rattle.aa_model.specs.declared.request.Request.TheVariants.{File, Link, Exec, Cap, Net, Change, Reload}
use Rattle.aa_logs.specs.Outcomes.{RecordData}
use Rattle.aa_logs.specs.declared.task.LogTask.{LogTask}

-- an execution or a change moves the task that asks it
abbrev pub moves : Request → Bool
moves (Exec e) = true
moves (Change name) = true
moves (File f) = false
moves (Link l) = false
moves (Cap c) = false
moves (Net family kind) = false
moves (Reload policy) = false

-- a task: its process where the log tells, its profile, what it asks, and whether it was moved
pub record TaskData : Type 0 where
  pub pid : Option ℕ
  pub label : List ℕ
  pub requests : List Request
  pub over : Bool

-- a task of logs without where it lies in memory
abbrev pub task_data : LogTask → TaskData
task_data t = record { pid = t.pid; label = t.label.items; requests = t.requests.items; over = t.is_over }

-- tasks of logs without where they lie in memory
abbrev pub tasks_data : List LogTask → List TaskData
tasks_data ts = map task_data ts

-- both are of one process, or both of none
abbrev pub is_same_pid : Option ℕ → Option ℕ → Bool
is_same_pid None None = true
is_same_pid (Some a) (Some b) = a == b
is_same_pid None (Some b) = false
is_same_pid (Some a) None = false

-- it is of the record's process and profile, and isn't moved yet
abbrev pub takes : RecordData → TaskData → Bool
takes r t = not t.over && is_same_pid t.pid r.pid && bytes_eq t.label r.profile

-- the task that begins with a record
abbrev pub begun : RecordData → TaskData
begun r = record { pid = r.pid; label = r.profile; requests = r.request ∷ []; over = moves r.request }

-- the task with one request more
abbrev pub gone_on : Request → TaskData → TaskData
gone_on request t = record { pid = t.pid; label = t.label; requests = t.requests ++ request ∷ []; over = moves request }

-- a record's request is asked by the first task that takes it, or else begins another task behind all
unfoldable pub with_record : RecordData → List TaskData → List TaskData
with_record r [] = begun r ∷ []
with_record r (t ∷ ts) = if takes r t then gone_on r.request t ∷ ts else t ∷ with_record r ts

-- the task that takes it has fewer than 65,536 requests, or else there are fewer than 1,024 tasks
abbrev pub has_room : Option TaskData → ℕ → Bool
has_room None tasks = nat_lt tasks 1024
has_room (Some t) tasks = nat_lt (length t.requests) 65536

-- a job can have one more request there
unfoldable pub fits : RecordData → List TaskData → Bool
fits r ts = has_room (find (takes r) ts) (length ts)
