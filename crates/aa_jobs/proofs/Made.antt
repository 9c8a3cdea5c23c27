-- A made job means what the written one means.
use Rattle.std.proofs.Common.{◌≡◌, ℕ, ◌≤◌, List, [], ◌∷◌, length, map, Bool, true, false, ◌&&◌, nat_le, nat_lt, Option}
use Rattle.std.proofs.Common.{Some, None}
use Rattle.std.proofs.Common.{Result, Ok, Err, refl, sym, ap, ◌∙◌, arith}
use Rattle.std.specs.Prelude.{is_ok, if◌then◌else◌}
use Rattle.std.specs.List.{list_all}
use Rattle.std.proofs.lemmas.Bool.{and_parts}
use Rattle.std.proofs.lemmas.Bool.Decides.{nat_tests}
use Rattle.std.proofs.lemmas.List.{length-map}
use Rattle.json.specs.Json.{parse_map}
use Rattle.json.specs.Token.{Token}
use Rattle.aa_model.specs.declared.request.Request.{Request}
use Rattle.aa_model.specs.declared.request.Request.TheVariants as requests
use Rattle.aa_jobs.specs.declared.job_fault.JobFault.{JobFault}
use Rattle.aa_jobs.specs.declared.job_fault.JobFault.TheVariants.{BadRequest, TooLarge}
use Rattle.serde_json.specs.Data.{Data}
use Rattle.std.specs.Prelude.{codes}
use Rattle.std.specs.Str.{bytes_eq}
use Rattle.aa_jobs.specs.declared.job.EventName.{EventName}
use Rattle.aa_jobs.specs.declared.job.EventName.TheVariants.{Send, Take, Finish, Collect, Shut}
use Rattle.aa_jobs.specs.declared.job.Work.{Work}
use Rattle.aa_jobs.specs.declared.job.Work.TheVariants.{Ask}
use Rattle.aa_jobs.specs.Jobs.{limited_meaning}
use Rattle.aa_jobs.specs.Limits.{Sizes, include_sizes, lists_fit, numbers_fit, policies_fit, texts_fit, within_limits}
use Rattle.aa_jobs.specs.Made.{event_in, if_known, is_there, limited_in, made_event, made_event_shape, made_events_from}
use Rattle.aa_jobs.specs.Made.{made_items, made_job, made_sizes, made_task, mapped, meaning_in, names_one, or_exit, task_in, works_in}
use Rattle.aa_jobs.specs.Meaning.{asked, event_name, event_of, meaning, sealed, task_of, work_of, written_sizes}
use Rattle.aa_jobs.specs.Shape.{event_shape, events_from, list_in}
use Rattle.aa_jobs.specs.Steps.{◌>>=◌, each, needed, only_if}
use Rattle.aa_jobs.specs.Written.{WrittenItem, exit_item, file_item, link_item, exec_item, cap_item, net_item, change_item, reload_item, WrittenTask}
use Rattle.aa_jobs.specs.Written.{WrittenEvent, WrittenJob}

-- ---- results

pub mapped_ok : {A B : Type 0} (f : A → B) (r : Result A JobFault) (y : B) → mapped f r ≡ Ok y → (x : A) × (r ≡ Ok x) × (f x ≡ y)
mapped_ok f (Ok x) y e =
    let same : f x ≡ y = cc in
    (x, refl, same)
mapped_ok f (Err d) y e = absurd cc

pub mapped_err : {A B : Type 0} (f : A → B) (r : Result A JobFault) (d : JobFault) → mapped f r ≡ Err d → r ≡ Err d
mapped_err f (Ok x) d e = absurd cc
mapped_err f (Err b) d e = let same : b ≡ d = cc in ap Err same

pub parse_mapped : {A B C : Type 0} (h : B → C) (f : A → B) (o : Option (A × List Token)) → parse_map (λ a. h (f a)) o ≡ parse_map h (parse_map f o)
parse_mapped h f None = refl
parse_mapped h f (Some p) = refl

abbrev pub tested : {A : Type 0} → Bool → A → Result A JobFault
tested holds x = only_if holds BadRequest >>= λ _. Ok x

pub tested_is : {A : Type 0} (holds : Bool) (x y : A) → tested holds x ≡ Ok y → y ≡ x
tested_is true x y e = let same : x ≡ y = cc in sym same
tested_is false x y e = absurd cc

-- ---- items

abbrev Meets : ℕ → Result Work JobFault → Result Work JobFault → Type 0
Meets policies any given = given ≡ tested (is_ok any && is_there policies (or_exit any)) (or_exit any)

abbrev either : Bool → Request → Result Work JobFault
either holds r = asked (if holds then Ok r else Err BadRequest)

meets_either : (policies : ℕ) (holds : Bool) (r : Request) → names_one policies r ≡ true → Meets policies (either holds r) (either holds r)
meets_either policies true r there = sym (ap (λ b. tested b (Ask r)) there)
meets_either policies false r there = refl

abbrev by_name : Option ℕ → (ℕ → Request) → Result Work JobFault
by_name o make = asked (needed BadRequest o >>= λ x. Ok (make x))

meets_name : (policies : ℕ) (o : Option ℕ) (make : ℕ → Request) → ((x : ℕ) → names_one policies (make x) ≡ true)
    → Meets policies (by_name o make) (by_name o make)
meets_name policies None make there = refl
meets_name policies (Some x) make there = sym (ap (λ b. tested b (Ask (make x))) (there x))

abbrev by_names : Option ℕ → Option ℕ → Result Work JobFault
by_names o p = asked (needed BadRequest o >>= λ f. needed BadRequest p >>= λ k. Ok (requests.Net f k))

meets_names : (policies : ℕ) (o p : Option ℕ) → Meets policies (by_names o p) (by_names o p)
meets_names policies None p = refl
meets_names policies (Some f) None = refl
meets_names policies (Some f) (Some k) = refl

-- by whether the policy is one of as many as there may be, and one of those that there are
meets_reload : (any one : Bool) (policies p : ℕ) → nat_lt p policies ≡ one → (one ≡ true → any ≡ true)
    → Meets policies (either any (requests.Reload p)) (either one (requests.Reload p))
meets_reload true true policies p is more = sym (ap (λ b. tested b (Ask (requests.Reload p))) is)
meets_reload true false policies p is more = sym (ap (λ b. tested b (Ask (requests.Reload p))) is)
meets_reload false true policies p is more = absurd (let no : false ≡ true = more refl in cc)
meets_reload false false policies p is more = refl

lt_more : (p policies : ℕ) → policies ≤ 16 → nat_lt p policies ≡ true → nat_lt p 16 ≡ true
lt_more p policies few e = grind (arith, nat_tests)

-- what an item asks in a job of so many policies, by what it asks in one of as many as there may be
item_meets : (policies : ℕ) → policies ≤ 16 → (i : WrittenItem) → Meets policies (work_of 16 i) (work_of policies i)
unfolding work_of
item_meets policies few exit_item = refl
item_meets policies few (file_item path letters owned) = meets_either policies _ _ refl
item_meets policies few (link_item path target owned) = meets_either policies _ _ refl
item_meets policies few (exec_item path owned) = meets_either policies _ _ refl
item_meets policies few (cap_item name) = meets_name policies _ _ (λ x. refl)
item_meets policies few (net_item family kind) = meets_names policies _ _
item_meets policies few (change_item name) = meets_either policies _ _ refl
item_meets policies few (reload_item p) = meets_reload (nat_lt p 16) (nat_lt p policies) policies p refl (lt_more p policies few)

-- ---- lists

both_tested : {B : Type 0} (a b : Bool) (y : B) (ys : List B) → (tested a y >>= λ z. tested b ys >>= λ zs. Ok (z ∷ zs)) ≡ tested (a && b) (y ∷ ys)
both_tested true true y ys = refl
both_tested true false y ys = refl
both_tested false b y ys = refl

each_tested : {A B : Type 0} (f : A → Result B JobFault) (holds : A → Bool) (g : A → B) → ((x : A) → f x ≡ tested (holds x) (g x))
    → (xs : List A) → each f xs ≡ tested (list_all holds xs) (map g xs)
unfolding each
each_tested f holds g is [] = refl
each_tested f holds g is (x ∷ xs) =
    let one = is x in
    let others = each_tested f holds g is xs in
    (λ i. one i >>= λ y. others i >>= λ ys. Ok (y ∷ ys)) ∙ both_tested (holds x) (list_all holds xs) (g x) (map g xs)

regrouped : (a b c d : Bool) → ((a && b) && (c && d)) ≡ ((a && c) && (b && d))
regrouped false b c d = refl
regrouped true true true d = refl
regrouped true true false d = refl
regrouped true false true d = refl
regrouped true false false d = refl

all_and : {A B : Type 0} (a : A → Bool) (b : B → Bool) (g : A → B) (xs : List A) → list_all (λ x. a x && b (g x)) xs
    ≡ (list_all a xs && list_all b (map g xs))
all_and a b g [] = refl
all_and a b g (x ∷ xs) = ap (λ (t : Bool). (a x && b (g x)) && t) (all_and a b g xs) ∙ regrouped (a x) (b (g x)) (list_all a xs) (list_all b (map g xs))

each_over : {A B C : Type 0} (f : B → Result C JobFault) (h : A → B) (g : A → Result C JobFault) → ((x : A) → f (h x) ≡ g x) → (xs : List A)
    → each f (map h xs) ≡ each g xs
unfolding each
each_over f h g same [] = refl
each_over f h g same (x ∷ xs) =
    let one = same x in
    let others = each_over f h g same xs in
    λ i. one i >>= λ y. others i >>= λ ys. Ok (y ∷ ys)

one_mapped : {B C : Type 0} (h : B → C) (r : Result B JobFault) (rs : Result (List B) JobFault)
    → (mapped h r >>= λ y. mapped (map h) rs >>= λ ys. Ok (y ∷ ys)) ≡ mapped (map h) (r >>= λ y. rs >>= λ ys. Ok (y ∷ ys))
one_mapped h (Err e) rs = refl
one_mapped h (Ok y) (Err e) = refl
one_mapped h (Ok y) (Ok ys) = refl

pub each_mapped : {A B C : Type 0} (h : B → C) (f : A → Result B JobFault) (xs : List A) → each (λ x. mapped h (f x)) xs ≡ mapped (map h) (each f xs)
unfolding each
each_mapped h f [] = refl
each_mapped h f (x ∷ xs) = ap (λ rs. mapped h (f x) >>= λ y. rs >>= λ ys. Ok (y ∷ ys)) (each_mapped h f xs) ∙ one_mapped h (f x) (each f xs)

-- ---- events

known_or : (b : Bool) (n : EventName) (other : Result EventName JobFault) → needed BadRequest (if_known other) ≡ other
    → needed BadRequest (if_known (if b then Ok n else other)) ≡ (if b then Ok n else other)
known_or true n other same = refl
known_or false n other same = same

name_known : (name : List ℕ) → needed BadRequest (if_known (event_name name)) ≡ event_name name
name_known name =
    known_or (bytes_eq name (codes "send")) Send _ (known_or (bytes_eq name (codes "take")) Take _ (known_or (bytes_eq name (codes "finish")) Finish _
    (known_or (bytes_eq name (codes "collect")) Collect _ (known_or (bytes_eq name (codes "shut")) Shut (Err BadRequest) refl))))

event_made : (tasks : ℕ) (w : WrittenEvent) → event_in tasks (made_event w) ≡ event_of tasks w
unfolding event_in event_of
event_made tasks w =
    ap (λ named. named >>= λ name. only_if (nat_lt w.task tasks) BadRequest >>= λ _. Ok (record { task = w.task; name = name })) (name_known w.name)

events_listed : (list : Result (List Data) JobFault) → mapped (map made_event) (list >>= each event_shape) ≡ (list >>= each made_event_shape)
events_listed (Err e) = refl
events_listed (Ok ds) = sym (each_mapped made_event event_shape ds)

pub events_mapped : (o : Option Data) → mapped (map made_event) (events_from o) ≡ made_events_from o
events_mapped None = refl
events_mapped (Some d) = events_listed (list_in d)

-- ---- tasks and jobs

works_made : (policies : ℕ) → policies ≤ 16 → (is : List WrittenItem) → works_in policies (made_items is) ≡ each (work_of policies) is
works_made policies few is =
    let make : WrittenItem → Work = λ i. or_exit (work_of 16 i) in
    let good : WrittenItem → Bool = λ i. is_ok (work_of 16 i) in
    sym (each_tested (work_of policies) (λ i. good i && is_there policies (make i)) make (item_meets policies few) is
    ∙ ap (λ (b : Bool). tested b (map make is)) (all_and good (is_there policies) make is))

task_made : (policies : ℕ) → policies ≤ 16 → (w : WrittenTask) → task_in policies (made_task w) ≡ task_of policies w
unfolding task_in task_of
task_made policies few w =
    ap (λ given. only_if (nat_lt w.policy policies) BadRequest >>= λ _. given >>= λ requests.
    Ok (record { label = w.label; policy = w.policy; requests = requests })) (works_made policies few w.items)

meaning_made : (w : WrittenJob) → length w.policies ≤ 16 → meaning_in (made_job w) ≡ meaning w
unfolding meaning_in meaning
meaning_made w few =
    let tasks = each_over (task_in (length w.policies)) made_task (task_of (length w.policies)) (task_made (length w.policies) few) w.tasks in
    let count = length-map w.tasks made_task in
    let events = ap (λ n. each (event_in n) (map made_event w.events)) count
    ∙ each_over (event_in (length w.tasks)) made_event (event_of (length w.tasks)) (event_made (length w.tasks)) w.events in
    λ i. tasks i >>= λ ts. events i >>= λ es. sealed w.policies w.several w.includes ts w.states w.capacity es

counts_made : (ws : List WrittenTask) → map (λ t. length t.items.works) (map made_task ws) ≡ map (λ t. length t.items) ws
counts_made [] = refl
counts_made (w ∷ ws) =
    let one = length-map w.items (λ (i : WrittenItem). or_exit (work_of 16 i)) in
    let others = counts_made ws in
    λ i. one i ∷ others i

sizes_made : (w : WrittenJob) → made_sizes (made_job w) ≡ written_sizes w
sizes_made w =
    let counts = counts_made w.tasks in
    let events = length-map w.events made_event in
    λ i. record {
      policies = map length w.policies;
      includes = include_sizes w.includes;
      tasks = counts i;
      states = w.states;
      capacity = w.capacity;
      events = events i;
    }

policies_few : (s : Sizes) → within_limits s ≡ true → nat_le (length s.policies) 16 ≡ true
policies_few s h =
    let texts = (and_parts (texts_fit s) (lists_fit s) (and_parts (texts_fit s && lists_fit s) (numbers_fit s) h).0).0 in
    let fronts = (and_parts (policies_fit s && nat_le (length s.includes) 4095) (list_all (λ n. nat_le n 1048576) s.includes) texts).0 in
    let policies = (and_parts (policies_fit s) (nat_le (length s.includes) 4095) fronts).0 in
    let counts = (and_parts (nat_le 1 (length s.policies) && nat_le (length s.policies) 16) (list_all (λ n. nat_le n 1048576) s.policies) policies).0 in
    (and_parts (nat_le 1 (length s.policies)) (nat_le (length s.policies) 16) counts).1

few_policies : (w : WrittenJob) → within_limits (written_sizes w) ≡ true → length w.policies ≤ 16
few_policies w h =
    let few : nat_le (length w.policies) 16 ≡ true = ap (λ n. nat_le n 16) (sym (length-map w.policies length)) ∙ policies_few (written_sizes w) h in
    grind (arith, nat_tests)

if_within : {A : Type 0} (b : Bool) (x y : Result A JobFault) → (b ≡ true → x ≡ y) → (only_if b TooLarge >>= λ _. x)
    ≡ (only_if b TooLarge >>= λ _. y)
if_within true x y same = same refl
if_within false x y same = refl

pub limited_made : (w : WrittenJob) → limited_in (made_job w) ≡ limited_meaning w
limited_made w =
    ap (λ s. only_if (within_limits s) TooLarge >>= λ _. meaning_in (made_job w)) (sizes_made w)
    ∙ if_within (within_limits (written_sizes w)) (meaning_in (made_job w)) (meaning w) (λ h. meaning_made w (few_policies w h))
