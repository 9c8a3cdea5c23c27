-- What a line asks can be made, and so what the tasks of lines ask.
use Rattle.std.proofs.Common.{◌≡◌, ℕ, ◌<◌, Bool, true, false, cond, List, [], ◌∷◌, ◌++◌, length, Option, Some, None, refl, sym, ap, subst, arith}
use Rattle.std.specs.Prelude.{⊤, ◌&&◌, filter, fold, Result, Ok, Err, if◌then◌else◌, codes, not, ◌||◌}
use Rattle.std.specs.List.{AllByRecursion, cons_option}
use Rattle.std.specs.Option.{option_and_then, option_or}
use Rattle.std.specs.Str.{bytes_eq}
use Rattle.std.proofs.lemmas.List.Quantifiers.{position-Some}
use Rattle.aa_base.specs.Tables.{number_in as number_among, capability_names, family_names, sock_type_names}
use Rattle.aa_model.specs.Requests.{is_path, is_mask, is_wanted_name}
use Rattle.aa_model.specs.declared.request.Request.{Request}
use Rattle.aa_model.specs.declared.request.Request.TheVariants.{File, Link, Exec, Change}
use Rattle.aa_logs.specs.declared.chosen.Choice.{Choice}
use Rattle.aa_logs.specs.declared.line.Reason.TheVariants.{Path, Mask, NoNewPrivs, Broken}
use Rattle.aa_logs.specs.declared.line.Then.{Then}
use Rattle.aa_logs.specs.Words.{WordData, words_of}
use Rattle.aa_logs.specs.Fields.{raw_in, text_in}
use Rattle.aa_logs.specs.Outcomes.{RecordData, Another}
use Rattle.aa_logs.specs.Asked.{Cause, Because, Keyword, cap_by, exec_by, link_by, change_by, socket_by, net_by, masked_file, file_by, requested_by, object_by}
use Rattle.aa_logs.specs.Asked.{by_operation, unless_over, of_operation, asked_in, asked_mask, owned_in, passed_over, is_text_there, mask_owner}
use Rattle.aa_logs.specs.Records.{line_in, outcome_by, record_in, record_by, by_told, with_profile, with_request, told_in, is_record, is_broken, without_return}
use Rattle.aa_logs.specs.Tasks.{TaskData, tasks_data, gone_on, takes, with_record, fits}
use Rattle.aa_logs.specs.declared.task.LogTask.{LogTask}
use Rattle.aa_notation.specs.declared.job.JobPolicy.{JobPolicy}
use Rattle.aa_round_trip_laws.specs.Kinds.{CanBeMade}
use Rattle.aa_round_trip_laws.specs.Jobs.{AllCanBeMade, TasksCanBeMade}
use Rattle.aa_logs.specs.LogLines.{LogLine}
use Rattle.aa_messages.specs.Said.{said_in}
use Rattle.aa_job.specs.Tasks.{asked_by, asked_by_line, asked_by_lines, is_wanted, is_stranger, Asking, with_asked, no_tasks, Given, asked_in as asked_of}
use Rattle.aa_round_trip_laws.specs.Made.{LogsAskWhatCanBeMade}

-- ---- the request of a line

abbrev Made : ℕ → Result Request Cause → Type 0
Made n (Ok r) = CanBeMade n r
Made n (Err why) = ⊤

either : (n : ℕ) (b : Bool) (x y : Result Request Cause) → Made n x → Made n y → Made n (if b then x else y)
either n true x y h g = h
either n false x y h g = g

if_true : (n : ℕ) (b : Bool) (x : Result Request Cause) (why : Cause) → (b ≡ true → Made n x) → Made n (if b then x else Err why)
if_true n true x why h = h refl
if_true n false x why h = tt

both : (a b : Bool) → (a && b) ≡ true → (a ≡ true) × (b ≡ true)
both true true e = (refl, refl)
both true false e = cc
both false b e = cc

named : (names : List (List ℕ)) (name : List ℕ) (k : ℕ) → number_among names name ≡ Some k → k < length names
named names name k e = (position-Some (λ entry. bytes_eq entry name) names k [] e).0

cap_made : (n : ℕ) (o : Option ℕ) → ((k : ℕ) → o ≡ Some k → k < length capability_names) → Made n (cap_by o)
cap_made n None h = tt
cap_made n (Some k) h = h k refl

among : (names : List (List ℕ)) (o : Option (List ℕ)) (k : ℕ) → option_and_then (number_among names) o ≡ Some k → k < length names
among names None k e = cc
among names (Some name) k e = named names name k e

exec_made : (n : ℕ) (owned : Bool) (o : Option (List ℕ)) → Made n (exec_by owned o)
exec_made n owned None = tt
exec_made n owned (Some path) = if_true n (is_path path) (Ok (Exec (record { path = path; owned = owned }))) (Because Path) (λ e. e)

link_made : (n : ℕ) (owned : Bool) (o p : Option (List ℕ)) → Made n (link_by owned o p)
link_made n owned None p = tt
link_made n owned (Some link) None = tt
link_made n owned (Some link) (Some target) = if_true n (is_path link && is_path target) (Ok (Link (record { link = link; target = target; owned = owned }))) (Because Path) (both (is_path link) (is_path target))

change_made : (n : ℕ) (o : Option (List ℕ)) → Made n (change_by o)
change_made n None = tt
change_made n (Some name) = if_true n (is_wanted_name name) (Ok (Change name)) _ (λ e. e)

socket_made : (n : ℕ) (o p : Option ℕ) → ((k : ℕ) → o ≡ Some k → k < length family_names) → ((k : ℕ) → p ≡ Some k → k < length sock_type_names) → Made n (socket_by o p)
socket_made n None p h g = tt
socket_made n (Some family) None h g = tt
socket_made n (Some family) (Some kind) h g = (h family refl, g kind refl)

net_made : (n : ℕ) (family kind : List ℕ) → Made n (net_by family kind)
net_made n family kind = either n (bytes_eq family (codes "unix")) (Err (Keyword (codes "unix"))) (socket_by (number_among family_names family) (number_among sock_type_names kind)) tt
    (socket_made n (number_among family_names family) (number_among sock_type_names kind) (named family_names family) (named sock_type_names kind))

file_made : (n : ℕ) (ws : List WordData) (path : List ℕ) (o : Option (ℕ × Option Bool)) → Made n (masked_file ws path o)
file_made n ws path None = tt
file_made n ws path (Some m) = if_true n (is_path path) (if is_mask m.0 then Ok (File (record { path = path; mask = record { 0 = m.0 }; owned = owned_in m.1 ws })) else Err (Because Mask)) (Because Path)
    (λ e. if_true n (is_mask m.0) (Ok (File (record { path = path; mask = record { 0 = m.0 }; owned = owned_in m.1 ws }))) (Because Mask) (λ f. (e, f)))

named_file_made : (n : ℕ) (ws : List WordData) (letters : List ℕ) (o : Option (List ℕ)) → Made n (file_by ws letters o)
named_file_made n ws letters None = tt
named_file_made n ws letters (Some path) = file_made n ws path (asked_mask letters)

requested_made : (n : ℕ) (ws : List WordData) (o : Option (List ℕ)) → Made n (requested_by ws o)
requested_made n ws None = tt
requested_made n ws (Some letters) = named_file_made n ws letters (text_in (codes "name") ws)

object_made : (n : ℕ) (ws : List WordData) (o p : Option (List ℕ)) → Made n (object_by ws o p)
object_made n ws None p = requested_made n ws (raw_in (codes "requested_mask") ws)
object_made n ws (Some family) None = requested_made n ws (raw_in (codes "requested_mask") ws)
object_made n ws (Some family) (Some kind) = net_made n family kind

operation_made : (n : ℕ) (ws : List WordData) (operation : List ℕ) → Made n (by_operation ws operation)
unfolding by_operation
operation_made n ws operation =
    either n (bytes_eq operation (codes "capable")) _ _
    (cap_made n (option_and_then (number_among capability_names) (option_or (raw_in (codes "capname") ws) (raw_in (codes "name") ws)))
    (among capability_names (option_or (raw_in (codes "capname") ws) (raw_in (codes "name") ws))))
    (either n (bytes_eq operation (codes "exec")) _ _ (exec_made n (owned_in (mask_owner ws) ws) (text_in (codes "name") ws))
    (either n (bytes_eq operation (codes "link") || bytes_eq operation (codes "inode_link")) _ _ (link_made n (owned_in (mask_owner ws) ws) (text_in (codes "name") ws) (option_or (text_in (codes "target") ws) (text_in (codes "name2") ws)))
    (either n (bytes_eq operation (codes "change_profile")) _ _ (change_made n (option_or (text_in (codes "target") ws) (text_in (codes "name") ws)))
    (object_made n ws (raw_in (codes "family") ws) (raw_in (codes "sock_type") ws)))))

unless_over_made : (n : ℕ) (ws : List WordData) (operation : List ℕ) (o : Option (List ℕ)) → Made n (unless_over ws operation o)
unless_over_made n ws operation None = operation_made n ws operation
unless_over_made n ws operation (Some word) = tt

of_operation_made : (n : ℕ) (ws : List WordData) (o : Option (List ℕ)) → Made n (of_operation ws o)
of_operation_made n ws None = tt
of_operation_made n ws (Some operation) =
    either n (is_text_there (codes "no new privs") (raw_in (codes "info") ws)) (Err (Because NoNewPrivs)) (unless_over ws operation (passed_over operation ws)) tt (unless_over_made n ws operation (passed_over operation ws))

asked_made : (n : ℕ) (ws : List WordData) → Made n (asked_in ws)
unfolding asked_in
asked_made n ws = of_operation_made n ws (raw_in (codes "operation") ws)

-- ---- the record of a line

abbrev MadeRecord : ℕ → Result (Option RecordData) Cause → Type 0
MadeRecord n (Ok (Some r)) = CanBeMade n r.request
MadeRecord n (Ok None) = ⊤
MadeRecord n (Err why) = ⊤

with_request_made : (n : ℕ) (ws : List WordData) (became : Then) (profile : List ℕ) (x : Result Request Cause) → Made n x → MadeRecord n (with_request ws became profile x)
with_request_made n ws became profile (Ok r) h = h
with_request_made n ws became profile (Err why) h = tt

with_profile_made : (n : ℕ) (ws : List WordData) (became : Then) (x : Result (List ℕ) Cause) → MadeRecord n (with_profile ws became x)
with_profile_made n ws became (Ok profile) = with_request_made n ws became profile (asked_in ws) (asked_made n ws)
with_profile_made n ws became (Err why) = tt

told_made : (n : ℕ) (ws : List WordData) → MadeRecord n (by_told ws (told_in ws))
told_made n ws = grind (arith, with_profile_made n ws)

record_by_made : (n : ℕ) (ws : List WordData) → MadeRecord n (record_by ws)
unfolding record_by
record_by_made n ws = by (is_broken ws) (told_made n ws)
  where
    by : (b : Bool) → MadeRecord n (by_told ws (told_in ws)) → MadeRecord n (if b then Err (Because Broken) else by_told ws (told_in ws))
    by true h = tt
    by false h = h

record_made : (n : ℕ) (line : List ℕ) → MadeRecord n (record_in line)
unfolding record_in
record_made n line = by _ (record_by_made n (words_of line))
  where
    by : (b : Bool) → MadeRecord n (record_by (words_of line)) → MadeRecord n (if b then Err (Because Broken) else record_by (words_of line))
    by true h = tt
    by false h = h

abbrev MadeIf : ℕ → Option RecordData → Type 0
MadeIf n None = ⊤
MadeIf n (Some r) = CanBeMade n r.request

outcome_made : (n : ℕ) (x : Result (Option RecordData) Cause) → MadeRecord n x → MadeIf n (asked_of (outcome_by x))
outcome_made n (Err why) h = tt
outcome_made n (Ok None) h = tt
outcome_made n (Ok (Some r)) h = h

line_made : (n : ℕ) (line : List ℕ) → MadeIf n (asked_of (line_in line))
unfolding line_in
line_made n line = by (is_record (without_return line)) (outcome_made n (record_in (without_return line)) (record_made n (without_return line)))
  where
    by : (b : Bool) → MadeIf n (asked_of (outcome_by (record_in (without_return line)))) → MadeIf n (asked_of (if b then outcome_by (record_in (without_return line)) else Another))
    by true h = h
    by false h = tt

chosen_made : (n : ℕ) (choice : Choice) (line : List ℕ) → MadeIf n (asked_by choice line)
chosen_made n choice line = by (is_wanted choice line) (line_made n line)
  where
    by : (b : Bool) → MadeIf n (asked_of (line_in line)) → MadeIf n (if b then asked_of (line_in line) else None)
    by true h = h
    by false h = tt

-- ---- the tasks of lines

abbrev AllMade : ℕ → List RecordData → Type 0
AllMade n rs = AllByRecursion (λ (r : RecordData). CanBeMade n r.request) rs

lines_made : (n : ℕ) (choice : Choice) (lines : List LogLine) → AllMade n (asked_by_lines choice lines)
lines_made n choice [] = tt
lines_made n choice (l ∷ ls) = by (asked_by_line choice l) (chosen_made n choice (said_in l.bytes).text) (lines_made n choice ls)
  where
    by : (o : Option RecordData) → MadeIf n o → AllMade n (asked_by_lines choice ls) → AllMade n (cons_option o (asked_by_lines choice ls))
    by None h g = g
    by (Some r) h g = (h, g)

filtered_made : (n : ℕ) (p : RecordData → Bool) (rs : List RecordData) → AllMade n rs → AllMade n (filter p rs)
filtered_made n p [] h = tt
filtered_made n p (r ∷ rs) h = by (p r) (filtered_made n p rs h.1)
  where
    by : (b : Bool) → AllMade n (filter p rs) → AllMade n (cond b (r ∷ filter p rs) (filter p rs))
    by true g = (h.0, g)
    by false g = g

abbrev MadeTasks : ℕ → List TaskData → Type 0
MadeTasks n ts = AllByRecursion (λ (t : TaskData). AllCanBeMade n t.requests) ts

one_more_made : (n : ℕ) (rs : List Request) (r : Request) → AllCanBeMade n rs → CanBeMade n r → AllCanBeMade n (rs ++ r ∷ [])
one_more_made n [] r h g = (g, tt)
one_more_made n (x ∷ xs) r h g = (h.0, one_more_made n xs r h.1 g)

with_record_made : (n : ℕ) (r : RecordData) (ts : List TaskData) → CanBeMade n r.request → MadeTasks n ts → MadeTasks n (with_record r ts)
unfolding with_record
with_record_made n r [] can h = ((can, tt), tt)
with_record_made n r (t ∷ ts) can h = by (takes r t) (with_record_made n r ts can h.1)
  where
    by : (b : Bool) → MadeTasks n (with_record r ts) → MadeTasks n (cond b (gone_on r.request t ∷ ts) (t ∷ with_record r ts))
    by true g = (one_more_made n t.requests r.request h.0 can, h.1)
    by false g = (h.0, g)

with_asked_made : (n : ℕ) (a : Asking) (r : RecordData) → CanBeMade n r.request → MadeTasks n a.tasks → MadeTasks n (with_asked a r).tasks
with_asked_made n a r can h = by (fits r a.tasks)
  where
    by : (b : Bool) → MadeTasks n (cond {A = Asking} b (record { tasks = with_record r a.tasks; over = a.over }) (record { tasks = a.tasks; over = true })).tasks
    by true = with_record_made n r a.tasks can h
    by false = h

asking_made : (n : ℕ) (rs : List RecordData) (a : Asking) → AllMade n rs → MadeTasks n a.tasks → MadeTasks n (fold with_asked a rs).tasks
asking_made n [] a h g = g
asking_made n (r ∷ rs) a h g = asking_made n rs (with_asked a r) h.1 (with_asked_made n a r h.0 g)

of_tasks : (n : ℕ) (ts : List LogTask) → MadeTasks n (tasks_data ts) → TasksCanBeMade n ts
of_tasks n [] h = tt
of_tasks n (t ∷ ts) h = (h.0, of_tasks n ts h.1)

pub made : LogsAskWhatCanBeMade
made n t lines taken =
    let rs : List RecordData = asked_by_lines t.choice lines in
    let ps : List JobPolicy = t.policies.now in
    of_tasks n t.tasks.items (subst (MadeTasks n) (sym (ap (λ (g : Given). g.tasks) taken))
    (asking_made n (filter (λ r. not (is_stranger ps r)) rs) no_tasks (filtered_made n (λ r. not (is_stranger ps r)) rs (lines_made n t.choice lines)) tt))
