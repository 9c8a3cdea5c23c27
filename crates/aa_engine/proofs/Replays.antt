-- Policies that are the same give the same text of `replay`: its worlds are the same but for the machine.
use Rattle.std.proofs.Common.{◌≡◌, ℕ, zero, suc, ◌+◌, List, [], ◌∷◌, ◌++◌, Bool, true, false, cond, Option, Some, None, option_map, refl, ap, sym, subst, ◌∙◌, length}
use Rattle.std.specs.Prelude.{◌==◌, codes, decimal, nat_lt}
use Rattle.std.specs.List.{AllZip, slice_get, slice_set}
use Rattle.std.specs.Option.{option_and_then, option_map_or}
use Rattle.aa_model.specs.declared.policy.Policy.{Policy}
use Rattle.aa_model.specs.declared.label.Label.{Label}
use Rattle.aa_model.specs.declared.request.Request.{Request}
use Rattle.aa_model.specs.declared.answer.Answer.{Answer}
use Rattle.aa_jobs.specs.declared.job.Task.{Task}
use Rattle.aa_jobs.specs.declared.job.EventName.{EventName}
use Rattle.aa_jobs.specs.declared.job.Event.{Event as Listed}
use Rattle.aa_lane.specs.WorldState.{opening, after, decided, is_spent, is_full}
use Rattle.aa_lane.specs.declared.event.Event.TheVariants.{Send, Take, Finish, Collect, Shut}
use Rattle.aa_mediate.specs.Reply.{reply}
use Rattle.aa_engine.specs.declared.replay.Said.{Said}
use Rattle.aa_engine.specs.declared.replay.Said.TheVariants as say
use Rattle.aa_engine.specs.Answers.{task_label, next_label}
use Rattle.aa_engine.specs.Replay.{TaskWorld, TaskEvent, TaskState, named_event, is_refused, left_after, says, task_says, moved, task_after, given_text, said_text, told, event_line, tasks_after, line_at, replay_lines, opened, replay_text}
use Rattle.aa_policy.specs.Sameness.{SamePolicy}
use Rattle.aa_engine.proofs.Rows.{IsAlike, got_alike}
use Rattle.aa_engine.proofs.Replies.{label_named_alike, replies_alike}
use Rattle.aa_engine.proofs.SameTexts.{outcome_alike}

-- a world by another machine
abbrev by : List Policy → TaskWorld → TaskWorld
by policies w = record { machine = policies; start = w.start; capacity = w.capacity; accepted = w.accepted; answers = w.answers; taken = w.taken; collected = w.collected; state = w.state; shut = w.shut }

abbrev task_by : List Policy → TaskState → TaskState
task_by policies t = record { world = by policies t.world; left = t.left }

cond_by : (qs : List Policy) (b : Bool) (v v' w w' : TaskWorld) → v ≡ by qs v' → w ≡ by qs w' → cond b v w ≡ by qs (cond b v' w')
cond_by qs true v v' w w' e f = e
cond_by qs false v v' w w' e f = f

cond_machine : (ps : List Policy) (b : Bool) (v w : TaskWorld) → v.machine ≡ ps → w.machine ≡ ps → (cond b v w).machine ≡ ps
cond_machine ps true v w e f = e
cond_machine ps false v w e f = f

decided_machine : (ps : List Policy) (w : TaskWorld) (o : Option Request) → w.machine ≡ ps → (decided next_label reply w o).machine ≡ ps
decided_machine ps w None e = e
decided_machine ps w (Some q) e = e

-- an event leaves the machine as it is
same_machine : (ps : List Policy) (w : TaskWorld) (e : TaskEvent) → w.machine ≡ ps → (after next_label reply w e).machine ≡ ps
same_machine ps w (Send q) e =
    cond_machine ps (is_spent w) w _ e (cond_machine ps (is_full w) w _ e (cond_machine ps w.shut w (record w { accepted = w.accepted ++ q ∷ [] }) e e))
same_machine ps w Take e =
    cond_machine ps (nat_lt (length w.answers) w.taken) w _ e (cond_machine ps (nat_lt w.taken (length w.accepted)) (record w { taken = w.taken + 1 }) w e e)
same_machine ps w Finish e =
    cond_machine ps (w.taken == length w.answers) w (decided next_label reply w (slice_get w.accepted (length w.answers))) e (decided_machine ps w (slice_get w.accepted (length w.answers)) e)
same_machine ps w Collect e = cond_machine ps (nat_lt w.collected (length w.answers)) (record w { collected = w.collected + 1 }) w e e
same_machine ps w Shut e = e

module _ (ps qs : List Policy) (same : AllZip SamePolicy ps qs) where
  answer_alike : (w : TaskWorld) → w.machine ≡ ps → (q : Request) → reply qs w.state q ≡ reply w.machine w.state q
  answer_alike w e q = sym (ap (λ (m : List Policy). reply m w.state q) e ∙ replies_alike ps qs same w.state q)

  decided_alike : (w : TaskWorld) → w.machine ≡ ps → (o : Option Request) → decided next_label reply (by qs w) o ≡ by qs (decided next_label reply w o)
  decided_alike w e None = refl
  decided_alike w e (Some q) =
      ap (λ (a : Answer). by qs (record w { answers = w.answers ++ a ∷ []; state = a.label })) (answer_alike w e q)

  after_alike : (w : TaskWorld) → w.machine ≡ ps → (e : TaskEvent) → after next_label reply (by qs w) e ≡ by qs (after next_label reply w e)
  after_alike w h (Send q) =
      cond_by qs (is_spent w) (by qs w) w _ _ refl
      (cond_by qs (is_full w) (by qs w) w _ _ refl
      (cond_by qs w.shut (by qs w) w (record (by qs w) { accepted = w.accepted ++ q ∷ [] }) (record w { accepted = w.accepted ++ q ∷ [] }) refl refl))
  after_alike w h Take =
      cond_by qs (nat_lt (length w.answers) w.taken) (by qs w) w _ _ refl (cond_by qs (nat_lt w.taken (length w.accepted)) (record (by qs w) { taken = w.taken + 1 }) (record w { taken = w.taken + 1 }) (by qs w) w refl refl)
  after_alike w h Finish =
      cond_by qs (w.taken == length w.answers) (by qs w) w _ _ refl (decided_alike w h (slice_get w.accepted (length w.answers)))
  after_alike w h Collect =
      cond_by qs (nat_lt w.collected (length w.answers)) (record (by qs w) { collected = w.collected + 1 }) (record w { collected = w.collected + 1 }) (by qs w) w refl refl
  after_alike w h Shut = refl

  -- a task by the one machine, and by the other
  abbrev IsTwin : TaskState → TaskState → Type 0
  IsTwin t u = (t.world.machine ≡ ps) × (u ≡ task_by qs t)

  said_alike : (t : TaskState) (e : TaskEvent) → says (task_by qs t) e ≡ says t e
  said_alike t (Send q) = refl
  said_alike t Take = refl
  said_alike t Finish = refl
  said_alike t Collect = refl
  said_alike t Shut = refl

  moved_alike : (t : TaskState) → t.world.machine ≡ ps → (name : EventName) (e : TaskEvent) → moved (task_by qs t) name e ≡ task_by qs (moved t name e)
  moved_alike t h name e =
      ap (λ (w : TaskWorld). record { world = w; left = left_after name (is_refused (says (task_by qs t) e)) t.left }) (after_alike t.world h e)
      ∙ ap (λ (s : Said). record { world = by qs (after next_label reply t.world e); left = left_after name (is_refused s) t.left }) (said_alike t e)

  by_event : (t : TaskState) → t.world.machine ≡ ps → (name : EventName) (o : Option TaskEvent) →
      option_map_or (moved (task_by qs t) name) o (task_by qs t) ≡ task_by qs (option_map_or (moved t name) o t)
  by_event t h name None = refl
  by_event t h name (Some e) = moved_alike t h name e

  kept_machine : (t : TaskState) → t.world.machine ≡ ps → (name : EventName) (o : Option TaskEvent) → (option_map_or (moved t name) o t).world.machine ≡ ps
  kept_machine t h name None = h
  kept_machine t h name (Some e) = same_machine ps t.world e h

  task_after_alike : (t : TaskState) → t.world.machine ≡ ps → (name : EventName) → task_after (task_by qs t) name ≡ task_by qs (task_after t name)
  task_after_alike t h name = by_event t h name (named_event name t.left)

  twins_after : (t u : TaskState) → IsTwin t u → (name : EventName) → IsTwin (task_after t name) (task_after u name)
  twins_after t u h name =
      (kept_machine t h.0 name (named_event name t.left), ap (λ (x : TaskState). task_after x name) h.1 ∙ task_after_alike t h.0 name)

  given_alike : (several : Bool) (o : Option Answer) → given_text several ps o ≡ given_text several qs o
  given_alike several None = refl
  given_alike several (Some answer) = outcome_alike ps qs same several answer

  said_text_alike : (several : Bool) (name : EventName) (answers : List Answer) (s : Said) → said_text several ps name answers s ≡ said_text several qs name answers s
  unfolding said_text
  said_text_alike several name answers (say.Accepted n) = refl
  said_text_alike several name answers say.Spent = refl
  said_text_alike several name answers say.Full = refl
  said_text_alike several name answers say.Closed = refl
  said_text_alike several name answers (say.Taken n) = refl
  said_text_alike several name answers say.Idle = refl
  said_text_alike several name answers say.Settled = refl
  said_text_alike several name answers say.Held = refl
  said_text_alike several name answers (say.Finished n) = refl
  said_text_alike several name answers say.NoJob = refl
  said_text_alike several name answers (say.Given n) = ap (λ (text : List ℕ). codes " collect " ++ (decimal n ++ text)) (given_alike several (slice_get answers n))
  said_text_alike several name answers say.Nothing = refl
  said_text_alike several name answers (say.Count n) = refl

  told_alike : (several : Bool) (name : EventName) (answers : List Answer) (o : Option Said) → told several ps name answers o ≡ told several qs name answers o
  told_alike several name answers None = refl
  told_alike several name answers (Some s) = said_text_alike several name answers s

  option_said_alike : (t : TaskState) (o : Option TaskEvent) → option_map (says (task_by qs t)) o ≡ option_map (says t) o
  option_said_alike t None = refl
  option_said_alike t (Some e) = ap Some (said_alike t e)

  event_line_alike : (several : Bool) (number : ℕ) (t u : TaskState) → IsTwin t u → (name : EventName) → event_line several ps number t name ≡ event_line several qs number u name
  unfolding event_line
  event_line_alike several number t u h name = let line = λ (answers : List Answer) (o : Option Said). decimal number ++ told several qs name answers o ++ codes "\n" in
      ap (λ (text : List ℕ). decimal number ++ text ++ codes "\n") (told_alike several name (task_after t name).world.answers (task_says t name))
      ∙ sym (
      ap (λ (x : TaskState). line (task_after x name).world.answers (task_says x name)) h.1
      ∙ ap (λ (x : TaskState). line x.world.answers (task_says (task_by qs t) name)) (task_after_alike t h.0 name)
      ∙ ap (line (task_after t name).world.answers) (option_said_alike t (named_event name t.left)))

  line_by : (several : Bool) (e : Listed) (o p : Option TaskState) → IsAlike IsTwin o p →
      option_map_or (λ (t : TaskState). event_line several ps e.task t e.name) o [] ≡ option_map_or (λ (t : TaskState). event_line several qs e.task t e.name) p []
  line_by several e None None h = refl
  line_by several e (Some t) (Some u) h = event_line_alike several e.task t u h e.name
  line_by several e None (Some u) h = absurd h
  line_by several e (Some t) None h = absurd h

  set_alike : (ts us : List TaskState) (n : ℕ) (t u : TaskState) → AllZip IsTwin ts us → IsTwin t u → AllZip IsTwin (slice_set ts n t) (slice_set us n u)
  set_alike [] [] n t u h g = tt
  set_alike (x ∷ ts) (y ∷ us) zero t u h g = (g, h.1)
  set_alike (x ∷ ts) (y ∷ us) (suc n) t u h g = (h.0, set_alike ts us n t u h.1 g)
  set_alike [] (y ∷ us) n t u h g = absurd h
  set_alike (x ∷ ts) [] n t u h g = absurd h

  tasks_by : (ts us : List TaskState) → AllZip IsTwin ts us → (e : Listed) (o p : Option TaskState) → IsAlike IsTwin o p →
      AllZip IsTwin (option_map_or (λ (t : TaskState). slice_set ts e.task (task_after t e.name)) o ts) (option_map_or (λ (t : TaskState). slice_set us e.task (task_after t e.name)) p us)
  tasks_by ts us h e None None g = h
  tasks_by ts us h e (Some t) (Some u) g = set_alike ts us e.task (task_after t e.name) (task_after u e.name) h (twins_after t u g e.name)
  tasks_by ts us h e None (Some u) g = absurd g
  tasks_by ts us h e (Some t) None g = absurd g

  replay_lines_alike : (several : Bool) (events : List Listed) (ts us : List TaskState) → AllZip IsTwin ts us → replay_lines several ps ts events ≡ replay_lines several qs us events
  unfolding replay_lines
  replay_lines_alike several [] ts us h = refl
  replay_lines_alike several (e ∷ es) ts us h = let g = got_alike IsTwin ts us e.task h in
      ap (λ (text : List ℕ). text ++ replay_lines several ps (tasks_after ts e) es) (line_by several e (slice_get ts e.task) (slice_get us e.task) g)
      ∙ ap (λ (text : List ℕ). line_at several qs us e ++ text)
      (replay_lines_alike several es (tasks_after ts e) (tasks_after us e) (tasks_by ts us h e (slice_get ts e.task) (slice_get us e.task) g))

  opened_by : (capacity : ℕ) (task : Task) (o p : Option (List TaskState)) → IsAlike (AllZip IsTwin) o p → (l : Option Label) →
      IsAlike (AllZip IsTwin)
      (option_and_then (λ (label : Label). option_and_then (λ (rest : List TaskState). Some (record { world = opening ps label capacity; left = task.requests } ∷ rest)) o) l)
      (option_and_then (λ (label : Label). option_and_then (λ (rest : List TaskState). Some (record { world = opening qs label capacity; left = task.requests } ∷ rest)) p) l)
  opened_by capacity task o p h None = tt
  opened_by capacity task None None h (Some label) = tt
  opened_by capacity task (Some ts) (Some us) h (Some label) = ((refl, refl), h)
  opened_by capacity task None (Some us) h (Some label) = absurd h
  opened_by capacity task (Some ts) None h (Some label) = absurd h

  opened_alike : (capacity : ℕ) (tasks : List Task) → IsAlike (AllZip IsTwin) (opened ps capacity tasks) (opened qs capacity tasks)
  unfolding opened
  opened_alike capacity [] = tt
  opened_alike capacity (task ∷ tasks) =
      subst
      (λ (l : Option Label).
      IsAlike (AllZip IsTwin)
      (option_and_then (λ (label : Label). option_and_then (λ (rest : List TaskState). Some (record { world = opening ps label capacity; left = task.requests } ∷ rest)) (opened ps capacity tasks)) (task_label ps task))
      (option_and_then (λ (label : Label). option_and_then (λ (rest : List TaskState). Some (record { world = opening qs label capacity; left = task.requests } ∷ rest)) (opened qs capacity tasks)) l))
      (label_named_alike ps qs same task.policy task.label)
      (opened_by capacity task (opened ps capacity tasks) (opened qs capacity tasks) (opened_alike capacity tasks) (task_label ps task))

  lines_by : (several : Bool) (events : List Listed) (o p : Option (List TaskState)) → IsAlike (AllZip IsTwin) o p →
      option_map (λ (ts : List TaskState). replay_lines several ps ts events) o ≡ option_map (λ (ts : List TaskState). replay_lines several qs ts events) p
  lines_by several events None None h = refl
  lines_by several events (Some ts) (Some us) h = ap Some (replay_lines_alike several events ts us h)
  lines_by several events None (Some us) h = absurd h
  lines_by several events (Some ts) None h = absurd h

  pub replay_alike : (several : Bool) (capacity : ℕ) (tasks : List Task) (events : List Listed) → replay_text several ps capacity tasks events ≡ replay_text several qs capacity tasks events
  replay_alike several capacity tasks events = lines_by several events (opened ps capacity tasks) (opened qs capacity tasks) (opened_alike capacity tasks)
