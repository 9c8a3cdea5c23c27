-- What is made of a job that is within the limits keeps them.
use Rattle.std.proofs.Common.{◌≡◌, ℕ, Bool, true, false, ◌&&◌, List, [], ◌∷◌, length, map, nat_le, nat_lt, Result, Ok, Err, refl, sym, ap, subst, ◌∙◌}
use mathlib.Core.Bool.{Bool-set}
use Rattle.std.specs.Prelude.{⊤}
use Rattle.std.specs.List.{list_all}
use Rattle.std.proofs.lemmas.Bool.{and_parts}
use Rattle.std.proofs.lemmas.List.{length-map}
use Rattle.std.proofs.lemmas.List.Folds.{list_all-map}
use Rattle.aa_jobs.specs.declared.job_fault.JobFault.{JobFault}
use Rattle.aa_jobs.specs.declared.job_fault.JobFault.TheVariants.{BadRequest, TooLarge}
use Rattle.aa_jobs.specs.declared.job.Task.{Task}
use Rattle.aa_jobs.specs.declared.job.Event.{Event}
use Rattle.aa_jobs.specs.declared.job.Job.{Job}
use Rattle.aa_jobs.specs.Steps.{◌>>=◌, needed, only_if, each}
use Rattle.aa_jobs.specs.Made.{MadeTask, MadeEvent, MadeJob, event_in, is_there, made_sizes, meaning_in, task_in, works_in}
use Rattle.aa_jobs.proofs.Made.{tested_is}
use Rattle.aa_jobs.specs.Limits.{Sizes, lists_fit, numbers_fit, texts_fit, within_limits, include_sizes, job_sizes, keeps_limits, tasks_there, policies_there}
use Rattle.aa_jobs.specs.Meaning.{if_true, sealed}

bind_ok : {A B : Type 0} (given : Result A JobFault) (f : A → Result B JobFault) (z : B) → (given >>= f) ≡ Ok z → (y : A) × (given ≡ Ok y) × (f y ≡ Ok z)
bind_ok (Ok y) f z e = (y, refl, e)
bind_ok (Err d) f z e = absurd cc

only_true : (b : Bool) (d : JobFault) (u : ⊤) → only_if b d ≡ Ok u → b ≡ true
only_true true d u e = refl
only_true false d u e = absurd cc

-- what a step keeps of each element, it keeps of the list
each_keeps : {A B S : Type 0} (f : A → Result B JobFault) (after : B → S) (before : A → S)
    → ((x : A) (y : B) → f x ≡ Ok y → after y ≡ before x) → (xs : List A) (ys : List B) → each f xs ≡ Ok ys → map after ys ≡ map before xs
unfolding each
each_keeps f after before keeps [] ys e =
    let p : [] ≡ ys = cc in
    subst (λ zs. map after zs ≡ []) p refl
each_keeps f after before keeps (x ∷ xs) ys e =
    let a = bind_ok (f x) (λ y. each f xs >>= λ zs. Ok (y ∷ zs)) ys e in
    let b = bind_ok (each f xs) (λ zs. Ok (a.0 ∷ zs)) ys a.2 in
    let p : a.0 ∷ b.0 ≡ ys = cc (b.2) in
    let one = keeps x a.0 a.1 in
    let others = each_keeps f after before keeps xs b.0 b.1 in
    subst (λ zs. map after zs ≡ map before (x ∷ xs)) p (cc (one, others))

each_length : {A B : Type 0} (f : A → Result B JobFault) (xs : List A) (ys : List B) → each f xs ≡ Ok ys → length ys ≡ length xs
each_length {A = A} {B = B} f xs ys e =
    let zero_of_b : B → ℕ = λ y. 0 in
    let zero_of_a : A → ℕ = λ x. 0 in
    let none : map zero_of_b ys ≡ map zero_of_a xs = each_keeps f zero_of_b zero_of_a (λ x y h. refl) xs ys e in
    sym (length-map ys zero_of_b) ∙ ap length none ∙ length-map xs zero_of_a

task_keeps : (n : ℕ) (w : MadeTask) (t : Task) → task_in n w ≡ Ok t → length t.requests ≡ length w.items.works
unfolding task_in
task_keeps n w t e =
    let a = bind_ok (only_if (nat_lt w.policy n) BadRequest)
    (λ _. works_in n w.items >>= λ requests. Ok (record { label = w.label; policy = w.policy; requests = requests })) t e in
    let b = bind_ok (works_in n w.items) (λ requests. Ok (record { label = w.label; policy = w.policy; requests = requests })) t a.2 in
    let made : Task = record { label = w.label; policy = w.policy; requests = b.0 } in
    let p : made ≡ t = cc (b.2) in
    subst (λ (z : Task). length z.requests ≡ length w.items.works) p
    (ap length (tested_is (w.items.are_good && list_all (is_there n) w.items.works) w.items.works b.0 b.1))

policy_there : (n : ℕ) (w : MadeTask) (t : Task) → task_in n w ≡ Ok t → nat_lt t.policy n ≡ true
unfolding task_in
policy_there n w t e =
    let a = bind_ok (only_if (nat_lt w.policy n) BadRequest)
    (λ _. works_in n w.items >>= λ requests. Ok (record { label = w.label; policy = w.policy; requests = requests })) t e in
    let b = bind_ok (works_in n w.items) (λ requests. Ok (record { label = w.label; policy = w.policy; requests = requests })) t a.2 in
    let made : Task = record { label = w.label; policy = w.policy; requests = b.0 } in
    let p : made ≡ t = cc (b.2) in
    subst (λ (z : Task). nat_lt z.policy n ≡ true) p (only_true (nat_lt w.policy n) BadRequest a.0 a.1)

event_there : (n : ℕ) (w : MadeEvent) (e : Event) → event_in n w ≡ Ok e → nat_lt e.task n ≡ true
unfolding event_in
event_there n w e h =
    let a = bind_ok (needed BadRequest w.name) (λ name. only_if (nat_lt w.task n) BadRequest >>= λ _. Ok (record { task = w.task; name = name })) e h in
    let b = bind_ok (only_if (nat_lt w.task n) BadRequest) (λ _. Ok (record { task = w.task; name = a.0 })) e a.2 in
    let made : Event = record { task = w.task; name = a.0 } in
    let p : made ≡ e = cc (b.2) in
    subst (λ (z : Event). nat_lt z.task n ≡ true) p (only_true (nat_lt w.task n) BadRequest b.0 b.1)

all_true : {A : Type 0} (xs : List A) → list_all (λ b. b) (map (λ _. true) xs) ≡ true
all_true [] = refl
all_true (x ∷ xs) = all_true xs

events_there : (n : ℕ) (ws : List MadeEvent) (es : List Event) → each (event_in n) ws ≡ Ok es → tasks_there es n ≡ true
events_there n ws es e =
    let kept : map (λ z. nat_lt z.task n) es ≡ map (λ _. true) ws = each_keeps (event_in n) (λ z. nat_lt z.task n) (λ _. true) (event_there n) ws es e in
    sym (list_all-map (λ b. b) (λ z. nat_lt z.task n) es) ∙ ap (list_all (λ b. b)) kept ∙ all_true ws

tasks_policies_there : (n : ℕ) (ws : List MadeTask) (ts : List Task) → each (task_in n) ws ≡ Ok ts → policies_there ts n ≡ true
tasks_policies_there n ws ts e =
    let kept : map (λ z. nat_lt z.policy n) ts ≡ map (λ _. true) ws = each_keeps (task_in n) (λ z. nat_lt z.policy n) (λ _. true)
    (policy_there n) ws ts e in
    sym (list_all-map (λ b. b) (λ z. nat_lt z.policy n) ts) ∙ ap (list_all (λ b. b)) kept ∙ all_true ws

pub capacity_fits : (s : Sizes) → within_limits s ≡ true → nat_le s.capacity 1024 ≡ true
capacity_fits s h =
    let numbers = (and_parts (texts_fit s && lists_fit s) (numbers_fit s) h).1 in
    (and_parts (nat_le 1 s.states && nat_le s.states 1000000 && nat_le 1 s.capacity) (nat_le s.capacity 1024) numbers).1

both : (a b : Bool) → a ≡ true → b ≡ true → (a && b) ≡ true
both a b h k = rw (h, k)

pub limits_kept : (w : MadeJob) (ts : List Task) (es : List Event) → within_limits (made_sizes w) ≡ true
    → each (task_in (length w.policies)) w.tasks ≡ Ok ts → each (event_in (length w.tasks)) w.events ≡ Ok es
    → keeps_limits w.policies w.includes ts w.states w.capacity es ≡ true
limits_kept w ts es within t e =
    let items : map (λ z. length z.requests) ts ≡ map (λ z. length z.items.works) w.tasks = each_keeps (task_in (length w.policies))
    (λ z. length z.requests) (λ z. length z.items.works) (task_keeps (length w.policies)) w.tasks ts t in
    let events : length es ≡ length w.events = each_length (event_in (length w.tasks)) w.events es e in
    let sizes : job_sizes w.policies w.includes ts w.states w.capacity es ≡ made_sizes w =
    ap (λ (m : List ℕ). let s : Sizes = record { policies = map length w.policies; includes = include_sizes w.includes; tasks = m; states = w.states; capacity = w.capacity; events = length es } in s) items
    ∙ ap (λ (n : ℕ). let s : Sizes = record {
      policies = map length w.policies;
      includes = include_sizes w.includes;
      tasks =
          map (λ z. length z.items.works) w.tasks;
      states = w.states;
      capacity = w.capacity;
      events = n;
    } in s) events in
    let there : tasks_there es (length ts) ≡ true = ap (tasks_there es) (each_length (task_in (length w.policies)) w.tasks ts t)
    ∙ events_there (length w.tasks) w.events es e in
    let policies : policies_there ts (length w.policies) ≡ true = tasks_policies_there (length w.policies) w.tasks ts t in
    both (within_limits (job_sizes w.policies w.includes ts w.states w.capacity es) && tasks_there es (length ts)) (policies_there ts (length w.policies))
    (both (within_limits (job_sizes w.policies w.includes ts w.states w.capacity es)) (tasks_there es (length ts))
    (ap within_limits sizes ∙ within) there) policies

if_true_is : {A : Type 0} (b : Bool) (f : b ≡ true → A) (other : A) (h : b ≡ true) → if_true b f other ≡ f h
if_true_is true f other h =
    let one : IsProp (true ≡ true) = hlevel (Bool-set) in
    ap f (one refl h)
if_true_is false f other h = absurd cc

-- a job is the one of its parts
pub sealed_is : (j : Job) → sealed j.policies j.several j.includes j.tasks j.states j.capacity j.events ≡ Ok j
unfolding sealed
sealed_is j = if_true_is (keeps_limits j.policies j.includes j.tasks j.states j.capacity j.events)
    (λ kept. Ok (record { policies = j.policies; several = j.several; includes = j.includes; tasks = j.tasks; states = j.states; capacity = j.capacity; events = j.events; limits = kept }))
    (Err TooLarge) j.limits

pub meaning_is : (w : MadeJob) (j : Job) → each (task_in (length w.policies)) w.tasks ≡ Ok j.tasks
    → each (event_in (length w.tasks)) w.events ≡ Ok j.events → w.policies ≡ j.policies → w.several ≡ j.several → w.includes ≡ j.includes
    → w.states ≡ j.states → w.capacity ≡ j.capacity → meaning_in w ≡ Ok j
unfolding meaning_in
meaning_is w j t e p m i s c = rw (t, e, p, m, i, s, c) (sealed_is j)
