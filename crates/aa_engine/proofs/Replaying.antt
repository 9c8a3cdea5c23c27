-- Opening a world for each task, and replaying event after event.
use Rattle.std.proofs.Common.{Bool, true, false, ◌≡◌, ℕ, ◌+◌, ◌<◌, ◌≤◌, List, [], ◌∷◌, ◌++◌, length, drop, get_or, Option, Some, None, refl, ap, sym, ◌∙◌, arith, append_assoc, take, IsTrue, ◌&&◌}
use Rattle.std.specs.Prelude.{nat_lt, option_map, option_and_then, slice_get, slice_set}
use Rattle.std.specs.Option.{option_map_or}
use Rattle.std.proofs.lemmas.List.{drop_more, at_drop_all, append-nil, length-set, take_all, take-append-le}
use Rattle.std.proofs.lemmas.List.Folds.{list_all_at}
use Rattle.std.proofs.lemmas.Bool.{ltb-true}
use Rattle.std.specs.List.{list_all}
use Rattle.aa_jobs.specs.Limits.{tasks_there}
use Rattle.aa_model.specs.declared.policy.Policy.{Policy}
use Rattle.aa_model.specs.declared.label.Label.{Label}
use Rattle.aa_jobs.specs.declared.job.Task.{Task}
use Rattle.aa_jobs.specs.declared.job.Event.{Event as Listed}
use Rattle.aa_lane.specs.WorldState.{opening}
use Rattle.aa_engine.specs.Answers.{task_label}
use Rattle.aa_engine.specs.Replay.{TaskState, TaskWorld, task_after, tasks_after, line_at, replay_lines, opened, replay_text}
use Rattle.aa_engine.proofs.Answering.{tf}

-- these tasks are open, and then those from that place on, are all
pub record Opening (policies : List Policy) (capacity : ℕ) (found : List TaskState) (rest tasks : List Task) : Type 0 where
  pub goes_on : option_map (λ (more : List TaskState). found ++ more) (opened policies capacity rest) ≡ opened policies capacity tasks

abbrev start : List Policy → ℕ → Task → Label → TaskState
start policies capacity task label = record { world = opening policies label capacity; left = task.requests }

mapped : (t : TaskState) (ts : Option (List TaskState)) → option_and_then (λ (others : List TaskState). Some (t ∷ others)) ts ≡ option_map (λ (others : List TaskState). t ∷ others) ts
mapped t None = refl
mapped t (Some ts) = refl

opened_step : (policies : List Policy) (capacity : ℕ) (task : Task) (tasks : List Task) (label : Label) → task_label policies task ≡ Some label
    → opened policies capacity (task ∷ tasks) ≡ option_map (λ (more : List TaskState). start policies capacity task label ∷ more) (opened policies capacity tasks)
unfolding opened
opened_step policies capacity task tasks label e = rw e (mapped (start policies capacity task label) (opened policies capacity tasks))

opened_nil : (policies : List Policy) (capacity : ℕ) → opened policies capacity [] ≡ Some []
unfolding opened
opened_nil policies capacity = refl

behind : (found : List TaskState) (t : TaskState) (ts : Option (List TaskState))
    → option_map (λ (more : List TaskState). (found ++ t ∷ []) ++ more) ts ≡ option_map (λ (more : List TaskState). found ++ more) (option_map (λ (more : List TaskState). t ∷ more) ts)
behind found t None = refl
behind found t (Some more) = ap (λ (x : List TaskState). Some x) (append_assoc found (t ∷ []) more)

pub opening_more : (policies : List Policy) (capacity : ℕ) (found more : List TaskState) (tasks : List Task) (i : ℕ) (task : Task) (label : Label) (world : TaskWorld)
    → i < length tasks → task ≡ get_or tasks i task → task_label policies task ≡ Some label → world ≡ opening policies label capacity
    → more ≡ found ++ (record { world = world; left = task.requests }) ∷ []
    → Opening policies capacity found (drop i tasks) tasks → Opening policies capacity more (drop (i + 1) tasks) tasks
opening_more policies capacity found more tasks i task label world lt item named world-is more-is so_far =
    let rest = drop (i + 1) tasks in
    let here : drop i tasks ≡ task ∷ rest = drop_more tasks i task lt ∙ ap (λ (t : Task). t ∷ rest) (sym item) in
    let t = start policies capacity task label in
    let whole : more ≡ found ++ t ∷ [] = more-is ∙ ap (λ (w : TaskWorld). found ++ (record { world = w; left = task.requests }) ∷ []) world-is in
    record {
      goes_on =
          ap (λ (f : List TaskState). option_map (λ (x : List TaskState). f ++ x) (opened policies capacity rest)) whole
          ∙ behind found t (opened policies capacity rest)
          ∙ ap (option_map (λ (x : List TaskState). found ++ x)) (sym (opened_step policies capacity task rest label named))
          ∙ ap (λ (ts : List Task). option_map (λ (x : List TaskState). found ++ x) (opened policies capacity ts)) (sym here)
          ∙ so_far.goes_on;
    }

pub opening_end : (policies : List Policy) (capacity : ℕ) (found : List TaskState) (tasks : List Task) (i : ℕ) → length tasks ≤ i → Opening policies capacity found (drop i tasks) tasks
    → opened policies capacity tasks ≡ Some found
opening_end policies capacity found tasks i le so_far =
    let over = λ (o : Option (List TaskState)). option_map (λ (more : List TaskState). found ++ more) o in
    sym so_far.goes_on ∙ at_drop_all (λ (ts : List Task). over (opened policies capacity ts)) tasks i le ∙ ap over (opened_nil policies capacity) ∙ ap (λ (x : List TaskState). Some x) (append-nil found)

-- ---- event after event

-- from these tasks on, what is written and then the lines of these events are the lines of all; there is one for each task of the job
pub record Replaying (several : Bool) (policies : List Policy) (capacity : ℕ) (tasks : List Task) (events : List Listed) (out : List ℕ) (states : List TaskState) (rest : List Listed) : Type 0 where
  pub first : List TaskState
  pub opens : opened policies capacity tasks ≡ Some first
  pub goes_on : out ++ replay_lines several policies states rest ≡ replay_lines several policies first events
  pub sized : length states ≡ length tasks

lines_step : (several : Bool) (policies : List Policy) (states : List TaskState) (e : Listed) (es : List Listed)
    → replay_lines several policies states (e ∷ es) ≡ line_at several policies states e ++ replay_lines several policies (tasks_after states e) es
unfolding replay_lines
lines_step several policies states e es = refl

lines_nil : (several : Bool) (policies : List Policy) (states : List TaskState) → replay_lines several policies states [] ≡ []
unfolding replay_lines
lines_nil several policies states = refl

same_size : (states : List TaskState) (e : Listed) (o : Option TaskState) → length (option_map_or (λ (t : TaskState). slice_set states e.task (task_after t e.name)) o states) ≡ length states
same_size states e None = refl
same_size states e (Some t) = length-set states e.task (task_after t e.name)

some_size : (t : TaskState) (o : Option (List TaskState)) (first : List TaskState) (n : ℕ) → option_map (λ (more : List TaskState). t ∷ more) o ≡ Some first
    → ((more : List TaskState) → o ≡ Some more → length more ≡ n) → length first ≡ n + 1
some_size t None first n e h = absurd cc
some_size t (Some more) first n e h =
    let is : t ∷ more ≡ first = cc in
    omega (arith, ap length (sym is), h more refl)

none_some : {first : List TaskState} → None ≡ Some first → ⊥
none_some e = cc

no_label_opens : (policies : List Policy) (capacity : ℕ) (task : Task) (tasks : List Task) → task_label policies task ≡ None → (first : List TaskState) → opened policies capacity (task ∷ tasks) ≡ Some first → ⊥
unfolding opened
no_label_opens policies capacity task tasks named first e =
    let none : opened policies capacity (task ∷ tasks) ≡ None = rw named refl in
    none_some (sym none ∙ e)

one_each_at : (policies : List Policy) (capacity : ℕ) (task : Task) (tasks : List Task) (named : Option Label) → task_label policies task ≡ named → (first : List TaskState)
    → opened policies capacity (task ∷ tasks) ≡ Some first → ((more : List TaskState) → opened policies capacity tasks ≡ Some more → length more ≡ length tasks) → length first ≡ length (task ∷ tasks)
one_each_at policies capacity task tasks None named first e h = absurd (no_label_opens policies capacity task tasks named first e)
one_each_at policies capacity task tasks (Some label) named first e h =
    omega (arith, some_size (start policies capacity task label) (opened policies capacity tasks) first (length tasks) (sym (opened_step policies capacity task tasks label named) ∙ e) h)

one_each : (policies : List Policy) (capacity : ℕ) (tasks : List Task) (first : List TaskState) → opened policies capacity tasks ≡ Some first → length first ≡ length tasks
one_each policies capacity [] first e = let is : Some [] ≡ Some first = sym (opened_nil policies capacity) ∙ e in let same : [] ≡ first = cc in ap length (sym same)
one_each policies capacity (task ∷ tasks) first e = one_each_at policies capacity task tasks (task_label policies task) refl first e (one_each policies capacity tasks)

pub replaying_start : (several : Bool) (policies : List Policy) (capacity : ℕ) (tasks : List Task) (events : List Listed) (out : List ℕ) (states : List TaskState)
    → out ≡ [] → opened policies capacity tasks ≡ Some states → Replaying several policies capacity tasks events out states events
replaying_start several policies capacity tasks events out states none opens = record {
  first = states;
  opens = opens;
  goes_on = ap (λ (o : List ℕ). o ++ replay_lines several policies states events) none;
  sized = one_each policies capacity tasks states opens;
}

pub replaying_more : (several : Bool) (policies : List Policy) (capacity : ℕ) (tasks : List Task) (events : List Listed) (out more : List ℕ) (states moved : List TaskState) (i : ℕ) (d : Listed)
    → i < length events → more ≡ out ++ line_at several policies states (get_or events i d) → moved ≡ tasks_after states (get_or events i d)
    → Replaying several policies capacity tasks events out states (drop i events) → Replaying several policies capacity tasks events more moved (drop (i + 1) events)
replaying_more several policies capacity tasks events out more states moved i d lt more-is moved-is so_far =
    let rest = drop (i + 1) events in
    let e = get_or events i d in
    let here : drop i events ≡ e ∷ rest = drop_more events i d lt in
    let line = line_at several policies states e in
    record {
      first = so_far.first;
      opens = so_far.opens;
      goes_on =
          ap (λ (o : List ℕ). o ++ replay_lines several policies moved rest) more-is
          ∙ ap (λ (ts : List TaskState). (out ++ line) ++ replay_lines several policies ts rest) moved-is
          ∙ append_assoc out line (replay_lines several policies (tasks_after states e) rest)
          ∙ ap (λ (x : List ℕ). out ++ x) (sym (lines_step several policies states e rest))
          ∙ ap (λ (es : List Listed). out ++ replay_lines several policies states es) (sym here)
          ∙ so_far.goes_on;
      sized = ap length moved-is ∙ same_size states e (slice_get states e.task) ∙ so_far.sized;
    }

-- what a slice of all tasks was left as, the list of them is
pub written_back : (len : ℕ) (old new : List TaskState) (e : Listed) → length old ≡ len → new ≡ tasks_after old e → take len (new ++ drop (length new) old) ≡ tasks_after old e
written_back len old new e len-is new-is =
    let long : length new ≡ len = ap length new-is ∙ same_size old e (slice_get old e.task) ∙ len-is in
    take-append-le len new (drop (length new) old) (omega arith) ∙ take_all len new (omega arith) ∙ new-is

-- ---- the task of each event is there

and_right : (a b : Bool) → IsTrue (a && b) → b ≡ true
and_right true true h = refl
and_right true false h = absurd (tf (sym h))
and_right false b h = absurd (tf (sym h))

all_pass_at : (p : Listed → Bool) (events : List Listed) (i : ℕ) (d : Listed) (b : Bool) → p (get_or events i d) ≡ b → list_all p events ≡ true → i < length events → b ≡ true
all_pass_at p events i d true is all lt = refl
all_pass_at p events i d false is all lt = absurd (tf (sym all ∙ list_all_at p events i d lt is))

and_left : (a b : Bool) → IsTrue (a && b) → a ≡ true
and_left true b h = refl
and_left false b h = absurd (tf (sym h))

pub is_there : (sizes others : Bool) (events : List Listed) (n m i : ℕ) (d : Listed) → IsTrue ((sizes && tasks_there events n) && others) → n ≡ m → i < length events → (get_or events i d).task < m
is_there sizes others events n m i d kept same lt =
    let p = λ (e : Listed). nat_lt e.task n in
    let all : tasks_there events n ≡ true = and_right sizes (tasks_there events n) (and_left (sizes && tasks_there events n) others kept) in
    let under : nat_lt (get_or events i d).task n ≡ true = all_pass_at p events i d (p (get_or events i d)) refl all lt in
    let less = ltb-true (get_or events i d).task n under in
    omega (arith, less, same)

pub replaying_end : (several : Bool) (policies : List Policy) (capacity : ℕ) (tasks : List Task) (events : List Listed) (out : List ℕ) (states : List TaskState) (i : ℕ)
    → length events ≤ i → Replaying several policies capacity tasks events out states (drop i events) → replay_text several policies capacity tasks events ≡ Some out
replaying_end several policies capacity tasks events out states i le so_far =
    let all : out ≡ replay_lines several policies so_far.first events =
    sym (append-nil out) ∙ ap (λ (x : List ℕ). out ++ x) (sym (lines_nil several policies states))
    ∙ sym (at_drop_all (λ (es : List Listed). out ++ replay_lines several policies states es) events i le) ∙ so_far.goes_on
    in
    ap (option_map (λ (ts : List TaskState). replay_lines several policies ts events)) so_far.opens ∙ ap (λ (x : List ℕ). Some x) (sym all)
