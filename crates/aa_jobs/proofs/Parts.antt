-- A job is read in parts: first its texts, and then what is done with them; and what stands there is looked at as a whole.
use Rattle.std.proofs.Common.{◌≡◌, ℕ, List, length, map, Bool, true, false, nat_le, Result, Ok, Err, refl, sym, ap, ◌∙◌}
use Rattle.std.specs.Prelude.{⊤, codes}
use Rattle.serde_json.specs.Data.{Data}
use Rattle.serde_json.specs.Find.{get}
use Rattle.aa_jobs.specs.declared.job_fault.JobFault.{JobFault}
use Rattle.aa_jobs.specs.declared.job_fault.JobFault.TheVariants.{BadShape, TooLarge}
use Rattle.aa_words.specs.declared.include.Include.{Include}
use Rattle.aa_jobs.specs.declared.shape.Part.TheVariants.{Whole}
use Rattle.aa_jobs.specs.Jobs.{job_of, json_of, written_in, limited_meaning}
use Rattle.aa_jobs.specs.Made.{MadeTask, MadeEvent, MadeJob, made_job, made_job_shape, made_event, made_task, made_task_shape, mapped}
use Rattle.aa_jobs.specs.Parts.{WrittenTexts, MadeRun, job_with, run_with, texts_shape}
use Rattle.aa_jobs.specs.Shape.{events_from, fits, has, includes_from, job_shape, list_at, number_from, policies_from, task_shape}
use Rattle.aa_jobs.specs.Steps.{◌>>=◌, each, only_if}
use Rattle.aa_jobs.specs.Written.{WrittenTask, WrittenEvent, WrittenJob}
use Rattle.aa_jobs.proofs.Made.{each_mapped, events_mapped}

pub bind_assoc : {A B C : Type 0} (r : Result A JobFault) (f : A → Result B JobFault) (g : B → Result C JobFault) → ((r >>= f) >>= g) ≡ (r >>= λ x. f x >>= g)
bind_assoc (Ok x) f g = refl
bind_assoc (Err e) f g = refl

-- ---- the bytes

pub job_small : (bytes : List ℕ) → nat_le (length bytes) 16777216 ≡ true → job_of bytes ≡ (written_in bytes >>= limited_meaning)
unfolding job_of
job_small bytes small = rw small (sym (bind_assoc (json_of bytes) job_shape limited_meaning))

pub job_large : (bytes : List ℕ) → nat_le (length bytes) 16777216 ≡ false → job_of bytes ≡ Err TooLarge
unfolding job_of
job_large bytes large = rw large refl

-- ---- the value

abbrev pub joined : Bool → WrittenTexts → MadeRun → MadeJob
joined several t r = record { policies = t.policies; several = several; includes = t.includes; tasks = r.tasks; states = r.states; capacity = r.capacity; events = r.events }

abbrev written : Bool → WrittenTexts → List WrittenTask → ℕ → ℕ → List WrittenEvent → WrittenJob
written several t tasks states capacity events = record {
  policies = t.policies;
  several = several;
  includes = t.includes;
  tasks = tasks;
  states =
      states;
  capacity = capacity;
  events = events;
}

abbrev pub texts : List (List ℕ) → List Include → WrittenTexts
texts policies includes = record { policies = policies; includes = includes }

abbrev pub run : List MadeTask → ℕ → ℕ → List MadeEvent → MadeRun
run tasks states capacity events = record { tasks = tasks; states = states; capacity = capacity; events = events }

run_apart : (several : Bool) (x : WrittenTexts) (t : Result (List WrittenTask) JobFault) (s c : Result ℕ JobFault) (e : Result (List WrittenEvent) JobFault)
    → mapped made_job (t >>= λ tasks. s >>= λ states. c >>= λ capacity. e >>= λ events. Ok (written several x tasks states capacity events))
    ≡ ((mapped (map made_task) t >>= λ tasks. s >>= λ states. c >>= λ capacity. mapped (map made_event) e >>= λ events.
    Ok (run tasks states capacity events)) >>= λ r. Ok (joined several x r))
run_apart several x (Err d) s c e = refl
run_apart several x (Ok t) (Err d) c e = refl
run_apart several x (Ok t) (Ok s) (Err d) e = refl
run_apart several x (Ok t) (Ok s) (Ok c) (Err d) = refl
run_apart several x (Ok t) (Ok s) (Ok c) (Ok e) = refl

parts : (several : Bool) (u : Result ⊤ JobFault) (p : Result (List (List ℕ)) JobFault) (i : Result (List Include) JobFault)
    (l : Result (List Data) JobFault)
    (s c : Result ℕ JobFault) (e : Result (List WrittenEvent) JobFault)
    → mapped made_job
    (u >>= λ _. p >>= λ policies. i >>= λ includes. l >>= λ list. each task_shape list >>= λ tasks. s >>= λ states. c >>= λ capacity. e >>= λ events.
    Ok (written several (texts policies includes) tasks states capacity events))
    ≡ (u >>= λ _. (p >>= λ policies. i >>= λ includes. Ok (texts policies includes)) >>= λ t.
    ((l >>= each made_task_shape) >>= λ tasks. s >>= λ states. c >>= λ capacity. mapped (map made_event) e >>= λ events.
    Ok (run tasks states capacity events)) >>= λ r. Ok (joined several t r))
parts several (Err d) p i l s c e = refl
parts several (Ok u) (Err d) i l s c e = refl
parts several (Ok u) (Ok p) (Err d) l s c e = refl
parts several (Ok u) (Ok p) (Ok i) (Err d) s c e = refl
parts several (Ok u) (Ok p) (Ok i) (Ok l) s c e =
    run_apart several (texts p i) (each task_shape l) s c e
    ∙ ap (λ (t : Result (List MadeTask) JobFault). (t >>= λ tasks. s >>= λ states. c >>= λ capacity. mapped (map made_event) e >>= λ events.
    Ok (run tasks states capacity events)) >>= λ r. Ok (joined several (texts p i) r))
    (sym (each_mapped made_task task_shape l))

pub job_parts : (d : Data) → made_job_shape d ≡ job_with (list_at (codes "tasks") d >>= each made_task_shape) d
unfolding job_shape job_with run_with texts_shape
job_parts d =
    let policies = policies_from (get (codes "policy") d) (get (codes "policies") d) in
    let includes = includes_from (get (codes "includes") d) in
    let tasks = list_at (codes "tasks") d in
    let states = number_from 4096 (get (codes "states") d) in
    let capacity = number_from 1 (get (codes "capacity") d) in
    parts (has (codes "policies") d) (only_if (fits Whole d) BadShape) policies includes tasks states capacity (events_from (get (codes "events") d))
    ∙ ap
    (λ (es : Result (List MadeEvent) JobFault). only_if (fits Whole d) BadShape >>= λ _. (policies >>= λ ps. includes >>= λ is. Ok (texts ps is)) >>= λ t.
    ((tasks >>= each made_task_shape) >>= λ ts. states >>= λ n. capacity >>= λ m. es >>= λ events. Ok (run ts n m events)) >>= λ r.
    Ok (joined (has (codes "policies") d) t r))
    (events_mapped (get (codes "events") d))
