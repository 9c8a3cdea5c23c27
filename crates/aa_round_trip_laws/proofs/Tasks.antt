-- The text of each task, read back.
use Rattle.std.proofs.Common.{◌≡◌, ℕ, ◌<◌, ◌≤◌, Bool, true, false, ◌||◌, ◌==◌, List, [], ◌∷◌, ◌++◌, length, map, cond, refl}
use Rattle.std.proofs.Common.{sym, ◌∙◌, ap, arith, codes, unwrap_or, Option, Some, None, Ok, append_assoc}
use Rattle.std.specs.List.{filter, list_all}
use Rattle.std.specs.Str.{is_utf8}
use Rattle.std.proofs.lemmas.Bool.{and_parts, lt-ltb, eqb-true}
use Rattle.std.proofs.lemmas.Str.{IsUtf8-from_is_utf8}
use Rattle.std.proofs.lemmas.List.Quantifiers.{position-Some}
use Rattle.json.proofs.Printed.Utf8.{IsUtf8-are_ascii}
use Rattle.json.specs.Print.{quoted, escape_byte}
use Rattle.serde_json.specs.Data.{unsigned, Data, number, string, array, object, Items, no_items, item, Members, no_members, member, items_depth, members_depth}
use Rattle.serde_json.specs.Written.{compact_text, items_text, members_text}
use Rattle.aa_model.specs.declared.request.Request.{Request}
use Rattle.aa_logs.specs.declared.task.LogTask.{LogTask}
use Rattle.aa_text.specs.Jsons.{comma_if, key_text}
use Rattle.aa_notation.specs.declared.job.JobPolicy.{JobPolicy}
use Rattle.aa_notation.specs.Requests.{member as member_text}
use Rattle.aa_notation.specs.Kinds.{request_text, has_text}
use Rattle.aa_notation.specs.Jobs.{if_text, requests_text, has_profile, policy_of, number_text, decider_text, task_text, tasks_text}
use Rattle.aa_jobs.specs.declared.job.Work.TheVariants.{Ask}
use Rattle.aa_jobs.specs.Steps.{each}
use Rattle.aa_jobs.specs.Written.{WrittenItem, WrittenTask}
use Rattle.aa_jobs.specs.Shape.{item_shape, data_list, task_shape}
use Rattle.aa_jobs.specs.Meaning.{work_of, task_of}
use Rattle.aa_text.specs.Again.{IsPlain, ArePlain, HasPlain, settled, settled_items}
use Rattle.aa_round_trip_laws.specs.Jobs.{AllCanBeMade, TasksCanBeMade, task_in}
use Rattle.aa_round_trip_laws.proofs.Regrouped.{of_nine}
use Rattle.aa_round_trip_laws.proofs.Requests.{utf8, request_data, written_item, request_written, request_plain, request_shallow, request_shaped, request_means}

or_false : (b : Bool) → (b || false) ≡ b
or_false true = refl
or_false false = refl

-- ---- what a task asks

abbrev request_items : List Request → Items
request_items [] = no_items
request_items (r ∷ rs) = cond (has_text r) (item (request_data r) (request_items rs)) (request_items rs)

-- a comma, a text and a list's other texts, regrouped
pub moved : (later : Bool) (text more : List ℕ) (ds : Items) (rest : List ℕ) → more ++ 93 ∷ rest ≡ items_text true ds ++ rest
    → ((comma_if later ++ text) ++ more) ++ 93 ∷ rest ≡ (comma_if later ++ (text ++ items_text true ds)) ++ rest
moved true text more ds rest e =
    ap (λ l. 44 ∷ l) (append_assoc text more (93 ∷ rest) ∙ (ap (λ l. text ++ l) e ∙ sym (append_assoc text (items_text true ds) rest)))
moved false text more ds rest e =
    append_assoc text more (93 ∷ rest) ∙ (ap (λ l. text ++ l) e ∙ sym (append_assoc text (items_text true ds) rest))

or_true : (b : Bool) → (b || true) ≡ true
or_true true = refl
or_true false = refl

request_joined : (later b : Bool) (r : Request) (rs : List Request) (rest : List ℕ) → has_text r ≡ b
    → (b ≡ true → request_text r ≡ compact_text (request_data r))
    → ((after : Bool) → requests_text after rs ++ 93 ∷ rest ≡ items_text after (request_items rs) ++ rest)
    → (cond b (comma_if later ++ request_text r) [] ++ requests_text (later || b) rs) ++ 93 ∷ rest ≡ items_text later (cond b (item (request_data r) (request_items rs)) (request_items rs)) ++ rest
request_joined later true r rs rest is one others =
    ap (λ b. ((comma_if later ++ request_text r) ++ requests_text b rs) ++ 93 ∷ rest) (or_true later)
    ∙ (moved later (request_text r) (requests_text true rs) (request_items rs) rest (others true)
    ∙ ap (λ l. (comma_if later ++ (l ++ items_text true (request_items rs))) ++ rest) (one refl))
request_joined later false r rs rest is one others = ap (λ b. requests_text b rs ++ 93 ∷ rest) (or_false later) ∙ others later

pub requests_written : (n : ℕ) (rs : List Request) → AllCanBeMade n rs → (rest : List ℕ) (later : Bool) → requests_text later rs ++ 93 ∷ rest ≡ items_text later (request_items rs) ++ rest
unfolding requests_text if_text
requests_written n [] c rest later = refl
requests_written n (r ∷ rs) c rest later =
    request_joined later (has_text r) r rs rest refl (request_written n r c.0) (requests_written n rs c.1 rest)

held_plain : (b : Bool) (r : Request) (rs : List Request) → (b ≡ true → IsPlain (request_data r)) → ArePlain (request_items rs) → ArePlain (cond b (item (request_data r) (request_items rs)) (request_items rs))
held_plain true r rs one others = (one refl, others)
held_plain false r rs one others = others

requests_plain : (n : ℕ) (rs : List Request) → AllCanBeMade n rs → n ≤ 16 → ArePlain (request_items rs)
requests_plain n [] c few = tt
requests_plain n (r ∷ rs) c few = held_plain (has_text r) r rs (request_plain n r c.0 few) (requests_plain n rs c.1 few)

held_shallow : (b : Bool) (r : Request) (rs : List Request) → items_depth (request_items rs) ≤ 1 → items_depth (cond b (item (request_data r) (request_items rs)) (request_items rs)) ≤ 1
held_shallow true r rs others = omega (arith, request_shallow r, others)
held_shallow false r rs others = others

requests_shallow : (rs : List Request) → items_depth (request_items rs) ≤ 1
requests_shallow [] = omega arith
requests_shallow (r ∷ rs) = held_shallow (has_text r) r rs (requests_shallow rs)

abbrev written_items : List Request → List WrittenItem
written_items rs = map written_item (filter has_text rs)

held_shaped : (b : Bool) (r : Request) (rs : List Request) → each item_shape (data_list (settled_items (request_items rs))) ≡ Ok (written_items rs)
    → each item_shape (data_list (settled_items (cond b (item (request_data r) (request_items rs)) (request_items rs)))) ≡ Ok (map written_item (cond b (r ∷ filter has_text rs) (filter has_text rs)))
unfolding each
held_shaped true r rs others = rw (request_shaped r, others) refl
held_shaped false r rs others = others

requests_shaped : (rs : List Request) → each item_shape (data_list (settled_items (request_items rs))) ≡ Ok (written_items rs)
unfolding each
requests_shaped [] = refl
requests_shaped (r ∷ rs) = held_shaped (has_text r) r rs (requests_shaped rs)

held_means : (n : ℕ) (b : Bool) (r : Request) (rs : List Request) → work_of n (written_item r) ≡ Ok (Ask r) → each (work_of n) (written_items rs) ≡ Ok (map Ask (filter has_text rs))
    → each (work_of n) (map written_item (cond b (r ∷ filter has_text rs) (filter has_text rs))) ≡ Ok (map Ask (cond b (r ∷ filter has_text rs) (filter has_text rs)))
unfolding each
held_means n true r rs one others = rw (one, others) refl
held_means n false r rs one others = others

requests_mean : (n : ℕ) (rs : List Request) → AllCanBeMade n rs → each (work_of n) (written_items rs) ≡ Ok (map Ask (filter has_text rs))
unfolding each
requests_mean n [] c = refl
requests_mean n (r ∷ rs) c = held_means n (has_text r) r rs (request_means n r c.0) (requests_mean n rs c.1)

-- ---- a task

abbrev number_members : Option ℕ → Members
number_members None = no_members
number_members (Some n) = member (codes "policy") (number (unsigned n)) no_members

-- which policy decides it, where that is written
abbrev decider : List JobPolicy → List ℕ → Option ℕ
decider ps label = cond (length ps == 1) None (policy_of label ps)

abbrev task_data : List JobPolicy → LogTask → Data
task_data ps t = object (member (codes "label") (string t.label.items) (member (codes "requests") (array (request_items t.requests.items)) (number_members (decider ps t.label.items))))

abbrev pub task_items : List JobPolicy → List LogTask → Items
task_items ps [] = no_items
task_items ps (t ∷ ts) = item (task_data ps t) (task_items ps ts)

abbrev pub written_task : List JobPolicy → LogTask → WrittenTask
written_task ps t = record { label = t.label.items; policy = unwrap_or (decider ps t.label.items) 0; items = written_items t.requests.items }

number_written : (o : Option ℕ) → number_text o ++ codes "}" ≡ members_text true (number_members o)
unfolding key_text escape_byte
number_written None = refl
number_written (Some n) = refl

decider_written : (b : Bool) (o : Option ℕ) → cond b [] (number_text o) ++ codes "}" ≡ members_text true (number_members (cond b None o))
decider_written true o = refl
decider_written false o = number_written o

task_written : (ps : List JobPolicy) (n : ℕ) (t : LogTask) → AllCanBeMade n t.requests.items → is_utf8 t.label.items ≡ true → task_text ps t ≡ compact_text (task_data ps t)
unfolding task_text member_text key_text decider_text escape_byte
task_written ps n t c u =
    let label = t.label.items in
    let rs = t.requests.items in
    let number = decider_text ps label in
    let begun : List ℕ → List ℕ = λ l. codes "{" ++ ((key_text (codes "label") ++ quoted label) ++ (codes "," ++ (key_text (codes "requests") ++ (codes "[" ++ l)))) in
    of_nine (codes "{") (member_text (codes "label") label) (codes ",") (key_text (codes "requests")) (codes "[") (requests_text false rs) (codes "]") number (codes "}")
    ∙ (ap (λ l. codes "{" ++ ((key_text (codes "label") ++ l) ++ (codes "," ++ (key_text (codes "requests") ++ (codes "[" ++ (requests_text false rs ++ (codes "]" ++ (number ++ codes "}")))))))) (utf8 label u)
    ∙ (ap begun (requests_written n rs c (number ++ codes "}") false)
    ∙ ap (λ l. begun (items_text false (request_items rs) ++ l)) (decider_written (length ps == 1) (policy_of label ps))))

pub tasks_written : (ps : List JobPolicy) (n : ℕ) (ts : List LogTask) → TasksCanBeMade n ts
    → list_all (λ (t : LogTask). is_utf8 t.label.items) ts ≡ true → (rest : List ℕ) (later : Bool)
    → tasks_text ps later ts ++ 93 ∷ rest ≡ items_text later (task_items ps ts) ++ rest
unfolding tasks_text
tasks_written ps n [] c u rest later = refl
tasks_written ps n (t ∷ ts) c u rest later =
    let both = and_parts _ _ u in
    moved later (task_text ps t) (tasks_text ps true ts) (task_items ps ts) rest (tasks_written ps n ts c.1 both.1 rest true)
    ∙ ap (λ l. (comma_if later ++ (l ++ items_text true (task_items ps ts))) ++ rest) (task_written ps n t c.0 both.0)

number_plain : (o : Option ℕ) → unwrap_or o 0 < 16 → HasPlain (number_members o)
number_plain None small = tt
number_plain (Some n) small = (IsUtf8-are_ascii (codes "policy") refl, omega (arith, small), tt)

-- the policy of a task is there
first_there : (label : List ℕ) (ps : List JobPolicy) → 1 ≤ length ps → (o : Option ℕ) → policy_of label ps ≡ o → unwrap_or o 0 < length ps
first_there label ps some None e = some
first_there label [] some (Some i) e = absurd (omega (arith, some))
first_there label (p ∷ ps) some (Some i) e = (position-Some (has_profile label) (p ∷ ps) i p e).0

decider_there : (label : List ℕ) (ps : List JobPolicy) → 1 ≤ length ps → (b : Bool) → unwrap_or (cond b None (policy_of label ps)) 0 < length ps
decider_there label ps some true = some
decider_there label ps some false = first_there label ps some (policy_of label ps) refl

-- of one policy the first is the only one
only_first : (label : List ℕ) (ps : List JobPolicy) → 1 ≤ length ps → (b : Bool) → (length ps == 1) ≡ b → unwrap_or (cond b None (policy_of label ps)) 0 ≡ unwrap_or (policy_of label ps) 0
only_first label ps some true one = omega (arith, eqb-true (length ps) 1 one, first_there label ps some (policy_of label ps) refl)
only_first label ps some false one = refl

pub tasks_plain : (ps : List JobPolicy) (ts : List LogTask) → 1 ≤ length ps → length ps ≤ 16 → TasksCanBeMade (length ps) ts → list_all (λ (t : LogTask). is_utf8 t.label.items) ts ≡ true → ArePlain (task_items ps ts)
tasks_plain ps [] some few c u = tt
tasks_plain ps (t ∷ ts) some few c u =
    let both = and_parts _ _ u in
    let label = t.label.items in
    let n = decider ps label in (
      (
        IsUtf8-are_ascii (codes "label") refl,
        IsUtf8-from_is_utf8 label both.0,
        (IsUtf8-are_ascii (codes "requests") refl, requests_plain (length ps) t.requests.items c.0 few, number_plain n (omega (arith, decider_there label ps some (length ps == 1), few))),
      ),
      tasks_plain ps ts some few c.1 both.1,
    )

number_shallow : (o : Option ℕ) → members_depth (number_members o) ≡ 0
number_shallow None = refl
number_shallow (Some n) = refl

pub tasks_shallow : (ps : List JobPolicy) (ts : List LogTask) → items_depth (task_items ps ts) ≤ 3
tasks_shallow ps [] = omega arith
tasks_shallow ps (t ∷ ts) = omega (arith, requests_shallow t.requests.items, number_shallow (decider ps t.label.items), tasks_shallow ps ts)

number_shaped : (label : List ℕ) (ds : Items) (items : List WrittenItem) (o : Option ℕ) → each item_shape (data_list (settled_items ds)) ≡ Ok items
    → task_shape (settled (object (member (codes "label") (string label) (member (codes "requests") (array ds) (number_members o))))) ≡ Ok (record { label = label; policy = unwrap_or o 0; items = items })
unfolding task_shape
number_shaped label ds items None e = rw e refl
number_shaped label ds items (Some n) e = rw e refl

pub tasks_shaped : (ps : List JobPolicy) (ts : List LogTask) → each task_shape (data_list (settled_items (task_items ps ts))) ≡ Ok (map (written_task ps) ts)
unfolding each
tasks_shaped ps [] = refl
tasks_shaped ps (t ∷ ts) =
    rw (number_shaped t.label.items (request_items t.requests.items) (written_items t.requests.items) (decider ps t.label.items) (requests_shaped t.requests.items), tasks_shaped ps ts) refl

task_means : (ps : List JobPolicy) (t : LogTask) → 1 ≤ length ps → AllCanBeMade (length ps) t.requests.items → task_of (length ps) (written_task ps t) ≡ Ok (task_in ps t)
unfolding task_of
task_means ps t some c =
    let label = t.label.items in
    rw (lt-ltb _ _ (decider_there label ps some (length ps == 1)), requests_mean (length ps) t.requests.items c, only_first label ps some (length ps == 1) refl) refl

pub tasks_mean : (ps : List JobPolicy) (ts : List LogTask) → 1 ≤ length ps → TasksCanBeMade (length ps) ts → each (task_of (length ps)) (map (written_task ps) ts) ≡ Ok (map (task_in ps) ts)
unfolding each
tasks_mean ps [] some c = refl
tasks_mean ps (t ∷ ts) some c = rw (task_means ps t some c.0, tasks_mean ps ts some c.1) refl
