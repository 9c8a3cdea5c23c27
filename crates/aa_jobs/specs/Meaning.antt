-- What stands in a job means these tasks and events.
-- Source: apparmor.d(5), "Access Modes"; capabilities(7); own.
use Rattle.std.specs.Prelude.{◌≡◌, ℕ, ◌&&◌, ◌||◌, ◌==◌, List, length, map, codes, Bool, true, false, refl, bit_or, nat_lt, if◌then◌else◌, Result, Ok, Err}
use Rattle.std.specs.List.{list_any, list_all}
use Rattle.std.specs.Str.{bytes_eq}
use Rattle.aa_model.specs.declared.request.Request.{Request}
use Rattle.aa_model.specs.declared.request.Request.TheVariants as requests
use Rattle.aa_jobs.specs.declared.job_fault.JobFault.{JobFault}
use Rattle.aa_jobs.specs.declared.job_fault.JobFault.TheVariants.{BadRequest, TooLarge}
use Rattle.aa_words.specs.declared.include.Include.{Include}
use Rattle.aa_jobs.specs.declared.job.Work.{Work}
use Rattle.aa_jobs.specs.declared.job.Work.TheVariants.{Ask, Exit}
use Rattle.aa_jobs.specs.declared.job.Task.{Task}
use Rattle.aa_jobs.specs.declared.job.EventName.{EventName}
use Rattle.aa_jobs.specs.declared.job.EventName.TheVariants.{Send, Take, Finish, Collect, Shut}
use Rattle.aa_jobs.specs.declared.job.Event.{Event}
use Rattle.aa_jobs.specs.declared.job.Job.{Job}
use Rattle.aa_base.specs.Tables.{number_in, capability_names, family_names, sock_type_names}
use Rattle.aa_model.specs.Requests.{is_path, is_mask, is_wanted_name}
use Rattle.aa_jobs.specs.Steps.{◌>>=◌, needed, only_if, each}
use Rattle.aa_jobs.specs.Written.{WrittenItem, exit_item, file_item, link_item, exec_item, cap_item, net_item, change_item, reload_item, WrittenTask, WrittenEvent, WrittenJob}
use Rattle.aa_jobs.specs.Limits.{Sizes, include_sizes, keeps_limits}

-- ---- requests

-- r, w, a, k and m
abbrev pub is_letter : ℕ → Bool
is_letter b = b == 114 || b == 119 || b == 97 || b == 107 || b == 109

-- the permission's bit, where its letter stands
abbrev pub bit_if : List ℕ → ℕ → ℕ → ℕ
bit_if letters letter bit = if list_any (λ b. b == letter) letters then bit else 0

-- the permissions of a mask's letters
abbrev pub mask_bits : List ℕ → ℕ
mask_bits letters = bit_or (bit_or (bit_or (bit_or (bit_if letters 114 1) (bit_if letters 119 2)) (bit_if letters 97 4)) (bit_if letters 107 16)) (bit_if letters 109 32)

-- a request for a file, where its letters are known and its path and mask can be asked for
abbrev pub file_request : List ℕ → List ℕ → Bool → Result Request JobFault
file_request path letters owned = if list_all is_letter letters && is_path path && is_mask (mask_bits letters) then Ok (requests.File (record { path = path; mask = record { 0 = mask_bits letters }; owned = owned })) else Err BadRequest

-- a request for a hard link at a path to another, where both are paths
abbrev pub link_request : List ℕ → List ℕ → Bool → Result Request JobFault
link_request path target owned = if is_path path && is_path target then Ok (requests.Link (record { link = path; target = target; owned = owned })) else Err BadRequest

-- the request to execute a path, if it can be asked for
abbrev pub exec_request : List ℕ → Bool → Result Request JobFault
exec_request path owned = if is_path path then Ok (requests.Exec (record { path = path; owned = owned })) else Err BadRequest

-- requests by names of the tables
abbrev pub cap_request : List ℕ → Result Request JobFault
cap_request name = do
  cap ← needed BadRequest (number_in capability_names name)
  Ok (requests.Cap cap)

-- the request for a socket, by the names of family and type
abbrev pub net_request : List ℕ → List ℕ → Result Request JobFault
net_request family kind = do
  f ← needed BadRequest (number_in family_names family)
  k ← needed BadRequest (number_in sock_type_names kind)
  Ok (requests.Net f k)

-- a request to change the profile, where the name can be asked for
abbrev pub change_request : List ℕ → Result Request JobFault
change_request name = if is_wanted_name name then Ok (requests.Change name) else Err BadRequest

-- a request to be decided by one of that many policies
abbrev pub reload_request : ℕ → ℕ → Result Request JobFault
reload_request policies policy = if nat_lt policy policies then Ok (requests.Reload policy) else Err BadRequest

-- what a task does: it asks this
abbrev pub asked : Result Request JobFault → Result Work JobFault
asked given = given >>= λ r. Ok (Ask r)

-- an item's request, in a job of that many policies
unfoldable pub work_of : ℕ → WrittenItem → Result Work JobFault
work_of policies exit_item = Ok Exit
work_of policies (file_item path letters owned) = asked (file_request path letters owned)
work_of policies (link_item path target owned) = asked (link_request path target owned)
work_of policies (exec_item path owned) = asked (exec_request path owned)
work_of policies (cap_item name) = asked (cap_request name)
work_of policies (net_item family kind) = asked (net_request family kind)
work_of policies (change_item name) = asked (change_request name)
work_of policies (reload_item policy) = asked (reload_request policies policy)

-- a task, in a job of that many policies
unfoldable pub task_of : ℕ → WrittenTask → Result Task JobFault
task_of policies w = do
  _ ← only_if (nat_lt w.policy policies) BadRequest
  requests ← each (work_of policies) w.items
  Ok (record { label = w.label; policy = w.policy; requests = requests })

-- ---- events

-- the event of a name
abbrev pub event_name : List ℕ → Result EventName JobFault
event_name name =
    if bytes_eq name (codes "send") then Ok Send
    else (if bytes_eq name (codes "take") then Ok Take
    else (if bytes_eq name (codes "finish") then Ok Finish
    else (if bytes_eq name (codes "collect") then Ok Collect
    else (if bytes_eq name (codes "shut") then Ok Shut
    else Err BadRequest))))

-- an event of one of that many tasks
unfoldable pub event_of : ℕ → WrittenEvent → Result Event JobFault
event_of tasks w = do
  name ← event_name w.name
  _ ← only_if (nat_lt w.task tasks) BadRequest
  Ok (record { task = w.task; name = name })

-- ---- the job

-- a value that may use that the test holds, else another
abbrev pub if_true : {A : Type 0} (b : Bool) → (b ≡ true → A) → A → A
if_true true f other = f refl
if_true false f other = other

-- the job of these parts, which keeps the limits: they are looked at before, so the other case doesn't come up
unfoldable pub sealed : List (List ℕ) → Bool → List Include → List Task → ℕ → ℕ → List Event → Result Job JobFault
sealed policies several includes tasks states capacity events =
    if_true (keeps_limits policies includes tasks states capacity events)
    (λ kept. Ok (record { policies = policies; several = several; includes = includes; tasks = tasks; states = states; capacity = capacity; events = events; limits = kept }))
    (Err TooLarge)

-- the sizes of a job as it is written
abbrev pub written_sizes : WrittenJob → Sizes
written_sizes w = record { policies = map length w.policies; includes = include_sizes w.includes; tasks = map (λ t. length t.items) w.tasks; states = w.states; capacity = w.capacity; events = length w.events }

-- the job that a written one means, or the first fault of its tasks and events
unfoldable pub meaning : WrittenJob → Result Job JobFault
meaning w = do
  tasks ← each (task_of (length w.policies)) w.tasks
  events ← each (event_of (length w.tasks)) w.events
  sealed w.policies w.several w.includes tasks w.states w.capacity events
