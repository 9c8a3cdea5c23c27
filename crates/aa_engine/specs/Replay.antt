-- What `replay` writes: events that happen at the tasks of a job, each at the world of its own task.
-- Source: own.
use Rattle.std.specs.Prelude.{ℕ, List, [], ◌∷◌, ◌++◌, codes, decimal, Bool, true, false, Option, Some, None, option_map, if◌then◌else◌, slice_get, slice_set}
use Rattle.std.specs.Option.{option_map_or}
use Rattle.aa_model.specs.declared.policy.Policy.{Policy}
use Rattle.aa_model.specs.declared.label.Label.{Label}
use Rattle.aa_model.specs.declared.request.Request.{Request}
use Rattle.aa_model.specs.declared.answer.Answer.{Answer}
use Rattle.aa_jobs.specs.declared.job.Work.{Work}
use Rattle.aa_jobs.specs.declared.job.Work.TheVariants.{Ask, Exit}
use Rattle.aa_jobs.specs.declared.job.Task.{Task}
use Rattle.aa_jobs.specs.declared.job.EventName.{EventName}
use Rattle.aa_jobs.specs.declared.job.EventName.TheVariants as names
use Rattle.aa_jobs.specs.declared.job.Event.{Event as Listed}
use Rattle.aa_lane.specs.WorldState.{WorldState, opening, after, answer_to}
use Rattle.aa_lane.specs.declared.event.SendFault.TheVariants.{Spent, Full, Closed}
use Rattle.aa_lane.specs.declared.event.Event.{Event}
use Rattle.aa_lane.specs.declared.event.Event.TheVariants.{Send, Take, Finish, Collect, Shut}
use Rattle.aa_lane.specs.declared.event.Reply.{Reply}
use Rattle.aa_lane.specs.declared.event.Reply.TheVariants.{Accepted, Unsent, Taken, Idle, Settled, Held, Finished, NoJob, Given, Nothing, Count}
use Rattle.aa_engine.specs.declared.replay.Said.{Said}
use Rattle.aa_engine.specs.declared.replay.Said.TheVariants as say
use Rattle.aa_mediate.specs.Reply.{reply}
use Rattle.aa_engine.specs.Answers.{task_label, next_label, ◌>>=◌}
use Rattle.aa_engine.specs.Output.{outcome_text}

-- the lane of a task as plain lists
abbrev pub TaskWorld : Type 0
TaskWorld = WorldState (List Policy) Label Request Answer

-- an event at a task's lane
abbrev pub TaskEvent : Type 0
TaskEvent = Event (List Policy) Label Request Answer

-- the reply to one
abbrev pub TaskReply : Type 0
TaskReply = Reply (List Policy) Label Request Answer

-- a task's world, and the items of its list that it has still to offer
pub record TaskState : Type 0 where
  pub world : TaskWorld
  pub left : List Work

-- an item that is offered: a request is sent, an exit shuts the lane
abbrev pub offered : Work → TaskEvent
offered (Ask request) = Send request
offered Exit = Shut

-- the event of that name; none where a task has no item left to send
abbrev pub named_event : EventName → List Work → Option TaskEvent
named_event names.Send [] = None
named_event names.Send (work ∷ works) = Some (offered work)
named_event names.Take works = Some Take
named_event names.Finish works = Some Finish
named_event names.Collect works = Some Collect
named_event names.Shut works = Some Shut

-- a reply without the request that came back
abbrev pub without_request : TaskReply → Said
without_request (Accepted n) = say.Accepted n
without_request (Unsent Spent request) = say.Spent
without_request (Unsent Full request) = say.Full
without_request (Unsent Closed request) = say.Closed
without_request (Taken n) = say.Taken n
without_request Idle = say.Idle
without_request Settled = say.Settled
without_request Held = say.Held
without_request (Finished n) = say.Finished n
without_request NoJob = say.NoJob
without_request (Given n) = say.Given n
without_request Nothing = say.Nothing
without_request (Count n) = say.Count n

-- an item was offered and refused
abbrev pub is_refused : Said → Bool
is_refused say.Spent = true
is_refused say.Full = true
is_refused say.Closed = true
is_refused _ = false

-- an item that was sent is left behind; a refused one stays next
abbrev pub left_after : EventName → Bool → List Work → List Work
left_after names.Send false (work ∷ works) = works
left_after _ refused works = works

-- what a task's world says to an event
abbrev pub says : TaskState → TaskEvent → Said
says task e = without_request (answer_to next_label reply task.world e)

-- what it says to the event of that name; nothing where there is no item left to send
abbrev pub task_says : TaskState → EventName → Option Said
task_says task name = option_map (says task) (named_event name task.left)

-- the task after an event
abbrev pub moved : TaskState → EventName → TaskEvent → TaskState
moved task name e = record {
  world = after next_label reply task.world e;
  left = left_after name (is_refused (says task e)) task.left;
}

-- a task after an event of that name
abbrev pub task_after : TaskState → EventName → TaskState
task_after task name = option_map_or (moved task name) (named_event name task.left) task

-- a collected answer
abbrev pub given_text : Bool → List Policy → Option Answer → List ℕ
given_text several policies None = []
given_text several policies (Some answer) = outcome_text several policies answer

-- the event offers an item
abbrev pub is_send : EventName → Bool
is_send names.Send = true
is_send _ = false

-- the exit of a task and a shut by name are one event, told by two words
abbrev pub count_word : EventName → List ℕ
count_word name = if is_send name then codes " exit " else codes " shut "

-- how it is told, where these answers are given by now
unfoldable pub said_text : Bool → List Policy → EventName → List Answer → Said → List ℕ
said_text several policies name answers (say.Accepted n) = codes " send accepted " ++ decimal n
said_text several policies name answers say.Spent = codes " send spent"
said_text several policies name answers say.Full = codes " send full"
said_text several policies name answers say.Closed = codes " send closed"
said_text several policies name answers (say.Taken n) = codes " take " ++ decimal n
said_text several policies name answers say.Idle = codes " take idle"
said_text several policies name answers say.Settled = codes " take settled"
said_text several policies name answers say.Held = codes " take held"
said_text several policies name answers (say.Finished n) = codes " finish " ++ decimal n
said_text several policies name answers say.NoJob = codes " finish none"
said_text several policies name answers (say.Given n) = codes " collect " ++ (decimal n ++ given_text several policies (slice_get answers n))
said_text several policies name answers say.Nothing = codes " collect none"
said_text several policies name answers (say.Count n) = count_word name ++ decimal n

-- where no item is left to send, the lane isn't asked
abbrev pub told : Bool → List Policy → EventName → List Answer → Option Said → List ℕ
told several policies name answers None = codes " send none"
told several policies name answers (Some s) = said_text several policies name answers s

-- the line of an event at a task
unfoldable pub event_line : Bool → List Policy → ℕ → TaskState → EventName → List ℕ
event_line several policies number task name = decimal number ++ told several policies name (task_after task name).world.answers (task_says task name) ++ codes "\n"

-- an event changes the world of its task, and no other
abbrev pub tasks_after : List TaskState → Listed → List TaskState
tasks_after tasks e = option_map_or (λ (t : TaskState). slice_set tasks e.task (task_after t e.name)) (slice_get tasks e.task) tasks

-- the line of an event at its task
abbrev pub line_at : Bool → List Policy → List TaskState → Listed → List ℕ
line_at several policies tasks e = option_map_or (λ (t : TaskState). event_line several policies e.task t e.name) (slice_get tasks e.task) []

-- the lines of events, in their order
unfoldable pub replay_lines : Bool → List Policy → List TaskState → List Listed → List ℕ
replay_lines several policies tasks [] = []
replay_lines several policies tasks (e ∷ es) = line_at several policies tasks e ++ replay_lines several policies (tasks_after tasks e) es

-- each task before the first event: its label's world, in which nothing has happened, and all of its items
unfoldable pub opened : List Policy → ℕ → List Task → Option (List TaskState)
opened policies capacity [] = Some []
opened policies capacity (task ∷ tasks) = do
  label ← task_label policies task
  others ← opened policies capacity tasks
  Some (record { world = opening policies label capacity; left = task.requests } ∷ others)

-- what `replay` writes
abbrev pub replay_text : Bool → List Policy → ℕ → List Task → List Listed → Option (List ℕ)
replay_text several policies capacity tasks events = option_map (λ (states : List TaskState). replay_lines several policies states events) (opened policies capacity tasks)
