-- The requests of a task, and what its job's tasks are answered.
use Rattle.std.proofs.Common.{Bool, true, false, cond, suc, zero, ◌≡◌, inl, inr, ℕ, ◌+◌, ◌<◌, ◌≤◌, List, [], ◌∷◌}
use Rattle.std.proofs.Common.{◌++◌, length, drop, take, get_or, map, Option, Some, None, refl, ap, sym, ◌∙◌, arith, append_assoc}
use Rattle.std.specs.Prelude.{option_map, option_and_then, is_none, nat_le, ◌&&◌}
use Rattle.std.specs.List.{position_from, list_all}
use Rattle.std.proofs.lemmas.Bool.{and_parts, leb-true}
use Rattle.std.proofs.lemmas.Iterator.Adapters.{position_from-zero}
use Rattle.std.proofs.lemmas.List.{drop_more, at_drop_all, append-nil, take_more, map-append, length-map}
use Rattle.aa_model.specs.declared.policy.Policy.{Policy}
use Rattle.aa_model.specs.declared.label.Label.{Label}
use Rattle.aa_model.specs.declared.request.Request.{Request}
use Rattle.aa_model.specs.declared.answer.Answer.{Answer}
use Rattle.aa_jobs.specs.declared.job.Work.{Work}
use Rattle.aa_jobs.specs.declared.job.Work.TheVariants.{Ask, Exit}
use Rattle.aa_jobs.specs.declared.job.Task.{Task}
use Rattle.aa_words.specs.declared.include.Include.{Include}
use Rattle.aa_jobs.specs.declared.job.Event.{Event}
use Rattle.aa_jobs.specs.Limits.{keeps_limits, job_sizes, within_limits, texts_fit, lists_fit, numbers_fit, tasks_there, policies_there}
use Rattle.aa_pool.specs.Opened.{Denies}
use Rattle.aa_pool.specs.declared.engine.EngineFault.{EngineFault}
use Rattle.aa_pool.specs.declared.engine.EngineFault.TheVariants as engine
use Rattle.aa_pool.specs.Answers.{answers_to}
use Rattle.aa_pool.specs.declared.tasks.Task.{Task as AskingBy}
use Rattle.aa_engine.specs.Answers.{Answered, asked, answers_by, task_label, job_answers_by, first_unknown}

-- ---- the requests of a task

-- these requests, and then those of the works from that place on, are all
pub record Asking (found : List Request) (rest : List Work) (all : List Request) : Type 0 where
  pub goes_on : found ++ asked rest ≡ all

pub asking_more : (found more : List Request) (works : List Work) (i : ℕ) (r r' : Request) (all : List Request)
    → i < length works → Ask r ≡ get_or works i (Ask r) → r' ≡ r → more ≡ found ++ r' ∷ [] → Asking found (drop i works) all → Asking more (drop (i + 1) works) all
asking_more found more works i r r' all lt item same more-is so_far =
    let rest = drop (i + 1) works in
    let here : drop i works ≡ Ask r ∷ rest = drop_more works i (Ask r) lt ∙ ap (λ (w : Work). w ∷ rest) (sym item) in
    record {
      goes_on =
          ap (λ (f : List Request). f ++ asked rest) (more-is ∙ ap (λ (x : Request). found ++ x ∷ []) same)
          ∙ append_assoc found (r ∷ []) (asked rest)
          ∙ ap (λ (ws : List Work). found ++ asked ws) (sym here)
          ∙ so_far.goes_on;
    }

pub asking_exit : (found : List Request) (works : List Work) (i : ℕ) (all : List Request) → i < length works → Exit ≡ get_or works i Exit → Asking found (drop i works) all → found ≡ all
asking_exit found works i all lt item so_far =
    let here : drop i works ≡ Exit ∷ drop (i + 1) works = drop_more works i Exit lt ∙ ap (λ (w : Work). w ∷ drop (i + 1) works) (sym item) in
    sym (append-nil found) ∙ ap (λ (ws : List Work). found ++ asked ws) (sym here) ∙ so_far.goes_on

pub asking_end : (found : List Request) (works : List Work) (i : ℕ) (all : List Request) → length works ≤ i → Asking found (drop i works) all → found ≡ all
asking_end found works i all le so_far =
    sym (append-nil found) ∙ sym (at_drop_all (λ (ws : List Work). found ++ asked ws) works i le) ∙ so_far.goes_on

-- ---- task after task

module _ {M : Type 0} (next : M → Label → Request → Label) (decide : M → Label → Request → Answer) (machine : M) (policies : List Policy) where
  abbrev Row : Type 0
  Row = List (Answered M)

  abbrev OfTask : Type 0
  OfTask = AskingBy M Label Request Answer

  mapped : (row : Row) (rows : Option (List Row)) → option_and_then (λ (others : List Row). Some (row ∷ others)) rows ≡ option_map (λ (others : List Row). row ∷ others) rows
  mapped row None = refl
  mapped row (Some rows) = refl

  step : (task : Task) (tasks : List Task) (label : Label) → task_label policies task ≡ Some label
      → job_answers_by next decide machine policies (task ∷ tasks) ≡ option_map (λ (rows : List Row). answers_by next decide machine task label ∷ rows) (job_answers_by next decide machine policies tasks)
  unfolding job_answers_by
  step task tasks label e = rw e (mapped (answers_by next decide machine task label) (job_answers_by next decide machine policies tasks))

  none : job_answers_by next decide machine policies [] ≡ Some []
  unfolding job_answers_by
  none = refl

  -- where each task's label and requests are asked for, the answers to them are those of the job
  pub all_answered : (askings : List OfTask) (tasks : List Task) → map (λ (a : OfTask). Some a.start) askings ≡ map (task_label policies) tasks
      → map (λ (a : OfTask). a.requests.items) askings ≡ map (λ (t : Task). asked t.requests) tasks
      → job_answers_by next decide machine policies tasks ≡ Some (map (λ (a : OfTask). answers_to next decide machine a.start a.requests.items) askings)
  all_answered [] [] labels requests = none
  all_answered [] (t ∷ ts) labels requests = absurd cc
  all_answered (a ∷ more) [] labels requests = absurd cc
  all_answered (a ∷ more) (t ∷ ts) labels requests =
      let label : task_label policies t ≡ Some a.start = cc in
      let others : map (λ (x : OfTask). Some x.start) more ≡ map (task_label policies) ts = cc in
      let request : a.requests.items ≡ asked t.requests = cc in
      let rest : map (λ (x : OfTask). x.requests.items) more ≡ map (λ (x : Task). asked x.requests) ts = cc in
      step t ts a.start label
      ∙ ap (option_map (λ (rows : List Row). answers_by next decide machine t a.start ∷ rows)) (all_answered more ts others rest)
      ∙ ap (λ (qs : List Request). Some (answers_to next decide machine a.start qs ∷ map (λ (x : OfTask). answers_to next decide machine x.start x.requests.items) more)) (sym request)

-- a task more
pub mapped_more : {A B : Type 0} (f : A → B) (xs : List B) (ts : List A) (i : ℕ) (t : A) (x : B) → i < length ts → t ≡ get_or ts i t → x ≡ f t → xs ≡ map f (take i ts) → xs ++ x ∷ [] ≡ map f (take (i + 1) ts)
mapped_more f xs ts i t x lt item same so_far =
    rw (take_more ts i t lt, map-append) (ap (λ l. l ++ x ∷ []) so_far ∙ ap (λ y. map f (take i ts) ++ y ∷ []) (same ∙ ap f item))

-- lanes are refused to a job for want of memory alone
pub lanes_denied : (fault : EngineFault) (tasks capacity : ℕ) → tasks ≤ 1024 → 0 < capacity → capacity ≤ 1024 → Denies fault tasks capacity → fault ≡ engine.NoMemory
lanes_denied engine.NoMemory tasks capacity few some narrow h = refl
lanes_denied engine.BadCapacity tasks capacity few some narrow h = absurd (elim h.1 [ inl e ↦ omega arith | inr lt ↦ omega arith ])
lanes_denied engine.TooManyLanes tasks capacity few some narrow h = absurd (omega arith)

-- a job has as many tasks, and a capacity, as lanes may have
pub fits_lanes : (policies : List (List ℕ)) (includes : List Include) (tasks : List Task) (states capacity : ℕ) (events : List Event) → keeps_limits policies includes tasks states capacity events ≡ true
    → (length tasks ≤ 1024) × (0 < capacity) × (capacity ≤ 1024)
fits_lanes policies includes tasks states capacity events kept =
    let s = job_sizes policies includes tasks states capacity events in
    let there = tasks_there events (length tasks) in
    let sized = (and_parts (within_limits s) there (and_parts (within_limits s && there) (policies_there tasks (length policies)) kept).0).0 in
    let parts = and_parts (texts_fit s && lists_fit s) (numbers_fit s) sized in
    let lists = (and_parts (texts_fit s) (lists_fit s) parts.0).1 in
    let short = nat_le (length s.tasks) 1024 in
    let each = list_all (λ (n : ℕ). nat_le n 65536) s.tasks in
    let few = (and_parts short each (and_parts (short && each) (nat_le s.events 1000000) lists).0).0 in
    let stated = nat_le 1 s.states && nat_le s.states 1000000 in
    let numbers = and_parts (stated && nat_le 1 s.capacity) (nat_le s.capacity 1024) parts.1 in
    let some = (and_parts stated (nat_le 1 s.capacity) numbers.0).1 in
    let a = leb-true (length s.tasks) 1024 few in
    let b = leb-true 1 capacity some in
    let c = leb-true capacity 1024 numbers.1 in
    (omega (arith, a, length-map tasks (λ (t : Task). length t.requests)), omega (arith, b), omega (arith, c))

-- as many labels as tasks
pub as_many : {A B C : Type 0} (f : A → C) (g : B → C) (xs : List A) (ys : List B) → map f xs ≡ map g ys → length xs ≡ length ys
as_many f g xs ys e = sym (length-map xs f) ∙ ap length e ∙ length-map ys g

pub mapped_twice : {A B C : Type 0} (f : B → C) (g : A → B) (xs : List A) → map f (map g xs) ≡ map (λ (x : A). f (g x)) xs
mapped_twice f g [] = refl
mapped_twice f g (x ∷ xs) = ap (λ l. f (g x) ∷ l) (mapped_twice f g xs)

-- where no task's label is unknown, each names a profile
pub tf : true ≡ false → ⊥
tf e = cc

passes_none_at : (p : Task → Bool) (k : ℕ) (t : Task) (ts : List Task) (i : ℕ) (d : Task) (b : Bool) → p t ≡ b → cond b (Some k) (position_from p (k + 1) ts) ≡ None → i < suc (length ts)
    → ((j : ℕ) → position_from p (k + 1) ts ≡ None → j < length ts → p (get_or ts j d) ≡ false) → p (get_or (t ∷ ts) i d) ≡ false
passes_none_at p k t ts i d true b-is e lt rest = absurd cc
passes_none_at p k t ts zero d false b-is e lt rest = b-is
passes_none_at p k t ts (suc i) d false b-is e lt rest = rest i e (omega arith)

passes_none : (p : Task → Bool) (k : ℕ) (tasks : List Task) (i : ℕ) (d : Task) → position_from p k tasks ≡ None → i < length tasks → p (get_or tasks i d) ≡ false
passes_none p k [] i d e lt = absurd (omega arith)
passes_none p k (t ∷ ts) i d e lt = passes_none_at p k t ts i d (p t) refl e lt (λ j. passes_none p (k + 1) ts j d)

pub none_unknown : (policies : List Policy) (tasks : List Task) (i : ℕ) (task : Task) → None ≡ first_unknown policies tasks → i < length tasks → task ≡ get_or tasks i task → None ≡ task_label policies task → ⊥
none_unknown policies tasks i task e lt item unnamed =
    let p = λ (t : Task). is_none (task_label policies t) in
    let false_here : p (get_or tasks i task) ≡ false = passes_none p 0 tasks i task (sym (position_from-zero p tasks) ∙ sym e) lt in
    let true_here : p (get_or tasks i task) ≡ true = ap p (sym item) ∙ ap is_none (sym unnamed) in
    tf (sym true_here ∙ false_here)
