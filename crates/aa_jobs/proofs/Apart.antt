-- An object whose value at one key is read by itself: its other members, and the shapes of a task and of a job.
use Rattle.std.proofs.Common.{◌≡◌, ℕ, List, Bool, true, false, ◌&&◌, cond, Option, Some, None, Result, Ok, Err, refl, sym, ap, ◌∙◌, bytes_eq}
use Rattle.std.specs.Prelude.{⊤, codes, is_some}
use Rattle.std.proofs.lemmas.Slice.Eq.{bytes_eq-Decides}
use Rattle.serde_json.specs.Data.{Data, Members, no_members, object, put}
use Rattle.serde_json.specs.Find.{get_member}
use Rattle.aa_jobs.specs.declared.job_fault.JobFault.{JobFault}
use Rattle.aa_jobs.specs.declared.job_fault.JobFault.TheVariants.{BadShape}
use Rattle.aa_jobs.specs.declared.shape.Part.TheVariants.{Whole, OfTask}
use Rattle.aa_jobs.specs.Parts.{job_with, run_with, task_with, texts_shape}
use Rattle.aa_jobs.specs.Made.{MadeItems, MadeTask, MadeJob, made_events_from, made_items, made_items_shape, made_job_shape, made_task, made_task_shape}
use Rattle.aa_jobs.specs.Made.{made_tasks_shape, mapped}
use Rattle.aa_jobs.specs.Shape.{has_only, includes_from, is_key, item_shape, list_in, number_from, policies_from, task_shape, text_in}
use Rattle.aa_jobs.specs.Steps.{◌>>=◌, each, needed, only_if}
use Rattle.aa_jobs.specs.Stream.{AgreeBut, shape_at}
use Rattle.aa_jobs.specs.Written.{WrittenItem}
use Rattle.aa_jobs.proofs.Keys.{known_put}
use Rattle.aa_jobs.proofs.Parts.{bind_assoc, job_parts, run, texts}
use Rattle.aa_jobs.proofs.Trees.{found_first}

pub agree_first : (key : List ℕ) → AgreeBut key no_members no_members
agree_first key = (λ k e. refl, λ part. refl)

found_both : (b : Bool) (x d : Data) (one other : Option Data) → (b ≡ true → x ≡ d) → one ≡ other → cond b (Some x) one ≡ cond b (Some d) other
found_both true x d one other is same = ap Some (is refl)
found_both false x d one other is same = same

-- one more member, with another value where its key is the one that is left out
pub agree_on : (key k : List ℕ) (x d : Data) (one other : Members) → (bytes_eq k key ≡ false → x ≡ d) → AgreeBut key one other → AgreeBut key (put k x one) (put k d other)
agree_on key k x d one other is same = (
  λ q apart.
      let alike = λ (e : bytes_eq k q ≡ true). is (ap (λ z. bytes_eq z key) ((bytes_eq-Decides k q).0 e) ∙ apart) in
      found_first (bytes_eq k q) q k x one refl ∙ found_both (bytes_eq k q) x d (get_member q one) (get_member q other) alike (same.0 q apart) ∙ sym (found_first (bytes_eq k q) q k d other refl),
  λ part. known_put part k x one ∙ ap (λ (b : Bool). is_key part k && b) (same.1 part) ∙ sym (known_put part k d other),
)

module _ {A : Type 0} (f : Data → Result A JobFault) where
  -- the last value of the key counts
  pub shape_last : (key k : List ℕ) (d : Data) (ms : Members) → bytes_eq k key ≡ true → shape_at f key (put k d ms) ≡ f d
  shape_last key k d ms e = ap (λ o. needed BadShape o >>= f) (found_first true key k d ms e)

  pub shape_kept : (key k : List ℕ) (d : Data) (ms : Members) → bytes_eq k key ≡ false → shape_at f key (put k d ms) ≡ shape_at f key ms
  shape_kept key k d ms e = ap (λ o. needed BadShape o >>= f) (found_first false key k d ms e)

listed : {B : Type 0} (f : Data → Result B JobFault) (o : Option Data) → ((needed BadShape o >>= list_in) >>= each f) ≡ (needed BadShape o >>= λ d. list_in d >>= each f)
listed f o = bind_assoc (needed BadShape o) list_in (each f)

abbrev task_from : Bool → Option Data → Option Data → Result MadeItems JobFault → Result MadeTask JobFault
task_from fit named decided given =
    only_if fit BadShape >>= λ _. (needed BadShape named >>= text_in) >>= λ label. number_from 0 decided >>= λ policy. given >>= λ items. Ok (record { label = label; policy = policy; items = items })

task_last : (label : List ℕ) (policy : ℕ) (items : Result (List WrittenItem) JobFault)
    → mapped made_task (items >>= λ is. Ok (record { label = label; policy = policy; items = is }))
    ≡ (mapped made_items items >>= λ is. Ok (record { label = label; policy = policy; items = is }))
task_last label policy (Err e) = refl
task_last label policy (Ok is) = refl

task_whole : (u : Result ⊤ JobFault) (named : Result (List ℕ) JobFault) (decided : Result ℕ JobFault) (list : Result (List Data) JobFault)
    → mapped made_task (u >>= λ _. named >>= λ label. decided >>= λ policy. list >>= λ requests. each item_shape requests >>= λ items.
    Ok (record { label = label; policy = policy; items = items }))
    ≡ (u >>= λ _. named >>= λ label. decided >>= λ policy. mapped made_items (list >>= each item_shape) >>= λ items.
    Ok (record { label = label; policy = policy; items = items }))
task_whole (Err e) named decided list = refl
task_whole (Ok u) (Err e) decided list = refl
task_whole (Ok u) (Ok label) (Err e) list = refl
task_whole (Ok u) (Ok label) (Ok policy) (Err e) = refl
task_whole (Ok u) (Ok label) (Ok policy) (Ok list) = task_last label policy (each item_shape list)

items_listed : (o : Option Data) → mapped made_items ((needed BadShape o >>= list_in) >>= each item_shape) ≡ (needed BadShape o >>= made_items_shape)
items_listed None = refl
items_listed (Some d) = refl

pub task_is : (one other : Members) → AgreeBut (codes "requests") one other → made_task_shape (object other)
    ≡ task_with (shape_at made_items_shape (codes "requests") other) (object one)
unfolding task_shape task_with
task_is one other same =
    task_whole (only_if (has_only OfTask other) BadShape) (needed BadShape (get_member (codes "label") other) >>= text_in)
    (number_from 0 (get_member (codes "policy") other))
    (needed BadShape (get_member (codes "requests") other) >>= list_in)
    ∙ ap (task_from (has_only OfTask other) (get_member (codes "label") other) (get_member (codes "policy") other))
    (items_listed (get_member (codes "requests") other))
    ∙ sym (λ i. task_from (same.1 OfTask i) (same.0 (codes "label") refl i) (same.0 (codes "policy") refl i)
    (shape_at made_items_shape (codes "requests") other))

abbrev job_from : Bool → Option Data → Option Data → Option Data → Option Data → Option Data → Option Data → Result (List MadeTask) JobFault
    → Result MadeJob JobFault
job_from fit policy policies includes states capacity events given =
    only_if fit BadShape >>= λ _. (policies_from policy policies >>= λ ps. includes_from includes >>= λ is. Ok (texts ps is)) >>= λ t.
    (given >>= λ ts. number_from 4096 states >>= λ n. number_from 1 capacity >>= λ m. made_events_from events >>= λ es. Ok (run ts n m es)) >>= λ r.
    Ok (record { policies = t.policies; several = is_some policies; includes = t.includes; tasks = r.tasks; states = r.states; capacity = r.capacity; events = r.events })

pub job_is : (one other : Members) → AgreeBut (codes "tasks") one other → made_job_shape (object other)
    ≡ job_with (shape_at made_tasks_shape (codes "tasks") other) (object one)
unfolding job_with run_with texts_shape
job_is one other same =
    job_parts (object other)
    ∙ ap (λ given. job_with given (object other)) (listed made_task_shape (get_member (codes "tasks") other))
    ∙ sym (λ i. job_from (same.1 Whole i) (same.0 (codes "policy") refl i) (same.0 (codes "policies") refl i) (same.0 (codes "includes") refl i) (same.0 (codes "states") refl i) (same.0 (codes "capacity") refl i)
    (same.0 (codes "events") refl i) (shape_at made_tasks_shape (codes "tasks") other))
