-- The text of a whole job, read back.
use Rattle.std.proofs.Common.{◌≡◌, ℕ, Ordering, Less, Equal, Greater, suc, ◌<◌, ◌≤◌, ◌^◌, Bool, true, false, not, ◌&&◌, ◌==◌}
use Rattle.std.proofs.Common.{List, [], ◌∷◌, ◌++◌, length, map, refl, sym, ◌∙◌, ap, ap₂, arith, codes, decimal, nat_le, Ok, append_assoc}
use Rattle.std.specs.List.{filter, list_all}
use Rattle.std.specs.Str.{is_utf8}
use Rattle.std.specs.Ordering.{nat_cmp, match_ordering}
use Rattle.std.specs.Cmp.Lexicographic.{slice_cmp}
use Rattle.std.proofs.lemmas.Bool.{and_parts, le-leb, leb-true, ne_eqb}
use Rattle.std.proofs.lemmas.Str.{IsUtf8-from_is_utf8}
use Rattle.std.proofs.lemmas.List.{length-map}
use Rattle.json.proofs.Printed.Utf8.{IsUtf8-are_ascii}
use Rattle.json.specs.Print.{quoted, escape_byte}
use Rattle.serde_json.specs.Data.{unsigned, Data, number, string, array, object, Items, no_items, item, Members, no_members, member, put, items_depth, members_depth}
use Rattle.serde_json.specs.Written.{compact_text, items_text, members_text}
use Rattle.aa_logs.specs.declared.task.LogTask.{LogTask}
use Rattle.aa_text.specs.Jsons.{comma_if, json_bytes, key_text}
use Rattle.aa_notation.specs.declared.job.Include.{Include}
use Rattle.aa_notation.specs.declared.job.JobPolicy.{JobPolicy}
use Rattle.aa_notation.specs.Requests.{member as member_text}
use Rattle.aa_notation.specs.Kinds.{has_text}
use Rattle.aa_notation.specs.Jobs.{tasks_text, include_text, includes_text, texts_text, policies_text, given_text, asked_text, job_text}
use Rattle.aa_words.specs.declared.include.Include as jobs
use Rattle.aa_jobs.specs.declared.job.Job.{Job}
use Rattle.aa_jobs.specs.declared.job.Work.TheVariants.{Ask}
use Rattle.aa_jobs.specs.Steps.{each}
use Rattle.aa_jobs.specs.Written.{WrittenJob}
use Rattle.aa_jobs.specs.Shape.{entry_list, data_list, text_in, include_shape, job_shape}
use Rattle.aa_jobs.specs.Limits.{Sizes, within_limits, texts_fit, policies_fit, lists_fit, numbers_fit, job_sizes}
use Rattle.aa_jobs.specs.Meaning.{event_of, meaning, task_of, written_sizes}
use Rattle.aa_jobs.specs.Jobs.{json_of, job_of}
use Rattle.aa_jobs.proofs.Kept.{sealed_is}
use Rattle.aa_text.specs.Again.{ArePlain, HasPlain, settled, settled_items, settled_members}
use Rattle.aa_round_trip_laws.specs.Jobs.{TasksCanBeMade, put_text, in_order, task_in, IsJobOf, JobsAreRead}
use Rattle.aa_round_trip_laws.proofs.Regrouped.{of_four, of_five, of_seven, of_eight, with_last}
use Rattle.aa_round_trip_laws.proofs.Requests.{utf8, written_item}
use Rattle.aa_round_trip_laws.proofs.Items.{line_read}
use Rattle.aa_round_trip_laws.proofs.Tasks.{moved, task_items, written_task, tasks_written, tasks_plain, tasks_shallow, tasks_shaped, tasks_mean}

-- ---- policies

abbrev text_items : List JobPolicy → Items
text_items [] = no_items
text_items (p ∷ ps) = item (string p.text.now) (text_items ps)

abbrev policies_then : List JobPolicy → Members → Members
policies_then [] ms = member (codes "policies") (array no_items) ms
policies_then (p ∷ []) ms = member (codes "policy") (string p.text.now) ms
policies_then (p ∷ q ∷ ps) ms = member (codes "policies") (array (text_items (p ∷ q ∷ ps))) ms

abbrev AreTexts : List JobPolicy → Type 0
AreTexts ps = list_all (λ (p : JobPolicy). is_utf8 p.text.now) ps ≡ true

texts_written : (ps : List JobPolicy) → AreTexts ps → (rest : List ℕ) (later : Bool) → texts_text later ps ++ 93 ∷ rest ≡ items_text later (text_items ps) ++ rest
unfolding texts_text
texts_written [] u rest later = refl
texts_written (p ∷ ps) u rest later =
    let both = and_parts _ _ u in
    moved later (json_bytes p.text.now) (texts_text true ps) (text_items ps) rest (texts_written ps both.1 rest true)
    ∙ ap (λ l. (comma_if later ++ (l ++ items_text true (text_items ps))) ++ rest) (utf8 p.text.now both.0)

policies_written : (ps : List JobPolicy) → AreTexts ps → (ms : Members) (rest : List ℕ) → policies_text ps ++ (members_text true ms ++ rest) ≡ members_text false (policies_then ps ms) ++ rest
unfolding policies_text texts_text member_text key_text escape_byte
policies_written [] u ms rest = refl
policies_written (p ∷ []) u ms rest =
    ap (λ l. key_text (codes "policy") ++ (l ++ (members_text true ms ++ rest))) (utf8 p.text.now (and_parts _ _ u).0)
    ∙ ap (λ l. key_text (codes "policy") ++ l) (sym (append_assoc (quoted p.text.now) (members_text true ms) rest))
policies_written (p ∷ q ∷ ps) u ms rest =
    let all = p ∷ q ∷ ps in
    let more = members_text true ms in
    let begun : List ℕ → List ℕ = λ l. key_text (codes "policies") ++ (codes "[" ++ l) in
    of_five (key_text (codes "policies")) (codes "[") (texts_text false all) (codes "]") (more ++ rest)
    ∙ (ap begun (texts_written all u (more ++ rest) false) ∙ ap begun (sym (append_assoc (items_text false (text_items all)) more rest)))

texts_settled : (ps : List JobPolicy) → settled_items (text_items ps) ≡ text_items ps
texts_settled [] = refl
texts_settled (p ∷ ps) = ap (item (string p.text.now)) (texts_settled ps)

texts_read : (ps : List JobPolicy) → each text_in (data_list (text_items ps)) ≡ Ok (map (λ (p : JobPolicy). p.text.now) ps)
unfolding each
texts_read [] = refl
texts_read (p ∷ ps) = rw (texts_read ps) refl

texts_plain : (ps : List JobPolicy) → AreTexts ps → ArePlain (text_items ps)
texts_plain [] u = tt
texts_plain (p ∷ ps) u = let both = and_parts _ _ u in (IsUtf8-from_is_utf8 p.text.now both.0, texts_plain ps both.1)

texts_shallow : (ps : List JobPolicy) → items_depth (text_items ps) ≡ 0
texts_shallow [] = refl
texts_shallow (p ∷ ps) = omega (arith, texts_shallow ps)

-- ---- includes

abbrev include_members : List Include → Members
include_members [] = no_members
include_members (i ∷ is) = member i.name.now (string i.text.now) (include_members is)

abbrev members_of : List jobs.Include → Members
members_of [] = no_members
members_of (i ∷ is) = member i.name (string i.text) (members_of is)

abbrev AreNamedTexts : List Include → Type 0
AreNamedTexts is = list_all (λ (i : Include). is_utf8 i.name.now && is_utf8 i.text.now) is ≡ true

-- a comma, a member and the others, regrouped
member_moved : (later : Bool) (text more : List ℕ) (ms : Members) (rest : List ℕ) → more ++ 125 ∷ rest ≡ members_text true ms ++ rest
    → ((comma_if later ++ text) ++ more) ++ 125 ∷ rest ≡ (comma_if later ++ (text ++ members_text true ms)) ++ rest
member_moved true text more ms rest e = ap (λ l. 44 ∷ l) (append_assoc text more (125 ∷ rest) ∙ (ap (λ l. text ++ l) e ∙ sym (append_assoc text (members_text true ms) rest)))
member_moved false text more ms rest e = append_assoc text more (125 ∷ rest) ∙ (ap (λ l. text ++ l) e ∙ sym (append_assoc text (members_text true ms) rest))

includes_written : (is : List Include) → AreNamedTexts is → (rest : List ℕ) (later : Bool) → includes_text later is ++ 125 ∷ rest ≡ members_text later (include_members is) ++ rest
unfolding includes_text include_text
includes_written [] u rest later = refl
includes_written (i ∷ is) u rest later =
    let both = and_parts _ _ u in
    let one = and_parts (is_utf8 i.name.now) (is_utf8 i.text.now) both.0 in
    let others = members_text true (include_members is) in
    let name = json_bytes i.name.now in
    let text = json_bytes i.text.now in
    member_moved later (name ++ codes ":" ++ text) (includes_text true is) (include_members is) rest (includes_written is both.1 rest true)
    ∙ ap (λ l. (comma_if later ++ l) ++ rest)
    (of_four name (codes ":") text others ∙ ap₂ (λ a b. a ++ 58 ∷ (b ++ others)) (utf8 i.name.now one.0) (utf8 i.text.now one.1))

includes_plain : (is : List Include) → AreNamedTexts is → HasPlain (include_members is)
includes_plain [] u = tt
includes_plain (i ∷ is) u =
    let both = and_parts _ _ u in
    let one = and_parts (is_utf8 i.name.now) (is_utf8 i.text.now) both.0 in
    (IsUtf8-from_is_utf8 i.name.now one.0, IsUtf8-from_is_utf8 i.text.now one.1, includes_plain is both.1)

includes_shallow : (is : List Include) → members_depth (include_members is) ≡ 0
includes_shallow [] = refl
includes_shallow (i ∷ is) = omega (arith, includes_shallow is)

members_of-match_ordering : (o : Ordering) (a b c : List jobs.Include) → match_ordering o (members_of a) (members_of b) (members_of c) ≡ members_of (match_ordering o a b c)
members_of-match_ordering Less a b c = refl
members_of-match_ordering Equal a b c = refl
members_of-match_ordering Greater a b c = refl

put_settled : (name text : List ℕ) (found : List jobs.Include) → put name (string text) (members_of found) ≡ members_of (put_text name text found)
put_settled name text [] = refl
put_settled name text (i ∷ is) =
    let o = slice_cmp nat_cmp name i.name in
    ap (λ ms. match_ordering o (member name (string text) (member i.name (string i.text) (members_of is))) (member i.name (string text) (members_of is)) (member i.name (string i.text) ms)) (put_settled name text is)
    ∙ members_of-match_ordering o (record { name = name; text = text } ∷ i ∷ is) (record { name = i.name; text = text } ∷ is) (i ∷ put_text name text is)

includes_settled : (is : List Include) (found : List jobs.Include) → settled_members (include_members is) (members_of found) ≡ members_of (in_order is found)
includes_settled [] found = refl
includes_settled (i ∷ is) found =
    ap (settled_members (include_members is)) (put_settled i.name.now i.text.now found) ∙ includes_settled is (put_text i.name.now i.text.now found)

includes_read : (is : List jobs.Include) → each include_shape (entry_list (members_of is)) ≡ Ok is
unfolding each include_shape
includes_read [] = refl
includes_read (i ∷ is) = rw (includes_read is) refl

-- ---- the job

abbrev rest_of_job : List JobPolicy → List Include → List LogTask → ℕ → Members
rest_of_job ps includes tasks states =
    member (codes "includes") (object (include_members includes)) (member (codes "tasks") (array (task_items ps tasks)) (member (codes "states") (number (unsigned states)) no_members))

abbrev job_data : List JobPolicy → List Include → List LogTask → ℕ → Data
job_data ps includes tasks states = object (policies_then ps (rest_of_job ps includes tasks states))

-- what that value says
abbrev written_job : List JobPolicy → List Include → List LogTask → ℕ → WrittenJob
written_job ps includes tasks states =
    record { policies = map (λ (p : JobPolicy). p.text.now) ps; several = not (length ps == 1); includes = in_order includes []; tasks = map (written_task ps) tasks; states = states; capacity = 1; events = [] }

-- behind the policies
end_written : (ps : List JobPolicy) (includes : List Include) (tasks : List LogTask) (states : ℕ) → AreNamedTexts includes → TasksCanBeMade (length ps) tasks → list_all (λ (t : LogTask). is_utf8 t.label.items) tasks ≡ true
    → codes "," ++ (key_text (codes "includes") ++ (codes "{" ++ (includes_text false includes ++ (codes "}," ++ asked_text ps tasks states)))) ≡ members_text true (rest_of_job ps includes tasks states) ++ codes "\n"
unfolding asked_text key_text escape_byte
end_written ps includes tasks states i c u =
    let given = members_text false (include_members includes) in
    let asked = items_text false (task_items ps tasks) in
    let tasks_begin = codes "," ++ (key_text (codes "tasks") ++ codes "[") in
    let states_begin = codes "," ++ key_text (codes "states") in
    let begun : List ℕ → List ℕ = λ l. codes "," ++ (key_text (codes "includes") ++ (codes "{" ++ l)) in
    let last = states_begin ++ (decimal states ++ codes "}\n") in
    ap (λ l. begun (includes_text false includes ++ (codes "}," ++ l))) (of_seven (key_text (codes "tasks")) (codes "[") (tasks_text ps false tasks) (codes "],") (key_text (codes "states")) (decimal states) (codes "}\n"))
    ∙ (ap (λ l. begun (includes_text false includes ++ (125 ∷ (tasks_begin ++ l)))) (tasks_written ps (length ps) tasks c u last false)
    ∙ (ap begun (includes_written includes i (tasks_begin ++ (asked ++ last)) false)
    ∙ ap begun (sym (with_last given tasks_begin asked states_begin (decimal states) (codes "}") (codes "\n")))))

job_written : (ps : List JobPolicy) (includes : List Include) (tasks : List LogTask) (states : ℕ) → AreTexts ps → AreNamedTexts includes
    → TasksCanBeMade (length ps) tasks → list_all (λ (t : LogTask). is_utf8 t.label.items) tasks ≡ true
    → job_text ps includes tasks states ≡ compact_text (job_data ps includes tasks states) ++ codes "\n"
unfolding given_text
job_written ps includes tasks states p i c u =
    of_eight (codes "{") (policies_text ps) (codes ",") (key_text (codes "includes")) (codes "{") (includes_text false includes) (codes "},") (asked_text ps tasks states)
    ∙ (ap (λ l. codes "{" ++ (policies_text ps ++ l)) (end_written ps includes tasks states i c u)
    ∙ ap (λ l. codes "{" ++ l) (policies_written ps p (rest_of_job ps includes tasks states) (codes "\n")))

policies_shaped : (ps : List JobPolicy) (includes : List Include) (tasks : List LogTask) (states : ℕ) → 1 ≤ length ps → job_shape (settled (job_data ps includes tasks states)) ≡ Ok (written_job ps includes tasks states)
unfolding job_shape
policies_shaped [] includes tasks states some = absurd (omega (arith, some))
policies_shaped (p ∷ []) includes tasks states some = rw (includes_settled includes [], includes_read (in_order includes []), tasks_shaped (p ∷ []) tasks) refl
policies_shaped (p ∷ q ∷ ps) includes tasks states some =
    rw (ne_eqb (suc (suc (length ps))) 1 (λ e. omega (arith, e)), texts_settled ps, texts_read (p ∷ q ∷ ps), includes_settled includes [], includes_read (in_order includes []), tasks_shaped (p ∷ q ∷ ps) tasks) refl

policies_plain : (ps : List JobPolicy) (ms : Members) → AreTexts ps → HasPlain ms → HasPlain (policies_then ps ms)
policies_plain [] ms u m = (IsUtf8-are_ascii (codes "policies") refl, tt, m)
policies_plain (p ∷ []) ms u m = (IsUtf8-are_ascii (codes "policy") refl, IsUtf8-from_is_utf8 p.text.now (and_parts _ _ u).0, m)
policies_plain (p ∷ q ∷ ps) ms u m = (IsUtf8-are_ascii (codes "policies") refl, texts_plain (p ∷ q ∷ ps) u, m)

policies_shallow : (ps : List JobPolicy) (ms : Members) → members_depth ms ≤ 4 → members_depth (policies_then ps ms) ≤ 4
policies_shallow [] ms m = omega (arith, m)
policies_shallow (p ∷ []) ms m = omega (arith, m)
policies_shallow (p ∷ q ∷ ps) ms m = omega (arith, m, texts_shallow ps)

job_json : (ps : List JobPolicy) (includes : List Include) (tasks : List LogTask) (states : ℕ) → AreTexts ps → AreNamedTexts includes
    → TasksCanBeMade (length ps) tasks → list_all (λ (t : LogTask). is_utf8 t.label.items) tasks ≡ true
    → 1 ≤ length ps → length ps ≤ 16 → states < 2 ^ 64 → json_of (job_text ps includes tasks states) ≡ Ok (settled (job_data ps includes tasks states))
job_json ps includes tasks states p i c u some few small =
    let rest = rest_of_job ps includes tasks states in
    let plain : HasPlain rest = (
      IsUtf8-are_ascii (codes "includes") refl,
      includes_plain includes i,
      (IsUtf8-are_ascii (codes "tasks") refl, tasks_plain ps tasks some few c u, (IsUtf8-are_ascii (codes "states") refl, small, tt)),
    ) in
    let shallow : members_depth rest ≤ 4 = omega (arith, includes_shallow includes, tasks_shallow ps tasks) in
    ap json_of (job_written ps includes tasks states p i c u)
    ∙ line_read (compact_text (job_data ps includes tasks states)) (job_data ps includes tasks states) refl (policies_plain ps rest p plain) (omega (arith, policies_shallow ps rest shallow))

-- ---- its limits are those of the job that it means

tasks_long : (ps : List JobPolicy) (tasks : List LogTask) → map (λ t. length t.items) (map (written_task ps) tasks) ≡ map (λ t. length t.requests) (map (task_in ps) tasks)
tasks_long ps [] = refl
tasks_long ps (t ∷ ts) = ap₂ (λ (n : ℕ) ns. n ∷ ns) (length-map (filter has_text t.requests.items) written_item ∙ sym (length-map (filter has_text t.requests.items) Ask)) (tasks_long ps ts)

sizes_kept : (ps : List JobPolicy) (includes : List Include) (tasks : List LogTask) (states : ℕ) (j : Job) → IsJobOf ps includes tasks states j
    → written_sizes (written_job ps includes tasks states) ≡ job_sizes j.policies j.includes j.tasks j.states j.capacity j.events
sizes_kept ps includes tasks states j is = rw (is.policies, is.includes, is.tasks, is.states, is.capacity, is.events, tasks_long ps tasks) refl

some_policies : (s : Sizes) → within_limits s ≡ true → (1 ≤ length s.policies) × (length s.policies ≤ 16) × (s.states ≤ 1000000)
some_policies s within =
    let both = and_parts (texts_fit s && lists_fit s) (numbers_fit s) within in
    let texts = and_parts _ _ (and_parts (texts_fit s) (lists_fit s) both.0).0 in
    let policies = and_parts (nat_le 1 (length s.policies) && nat_le (length s.policies) 16) (list_all (λ n. nat_le n 1048576) s.policies) (and_parts (policies_fit s) (nat_le (length s.includes) 4095) texts.0).0 in
    let count = and_parts (nat_le 1 (length s.policies)) (nat_le (length s.policies) 16) policies.0 in
    let numbers = and_parts _ _ (and_parts (nat_le 1 s.states && nat_le s.states 1000000 && nat_le 1 s.capacity) (nat_le s.capacity 1024) both.1).0 in
    (leb-true _ _ count.0, leb-true _ _ count.1, leb-true _ _ (and_parts (nat_le 1 s.states) (nat_le s.states 1000000) numbers.0).1)

-- a written job whose tasks and events mean these means the job of them
meaning_is : (w : WrittenJob) (j : Job) → each (task_of (length w.policies)) w.tasks ≡ Ok j.tasks
    → each (event_of (length w.tasks)) w.events ≡ Ok j.events → w.policies ≡ j.policies → w.several ≡ j.several → w.includes ≡ j.includes
    → w.states ≡ j.states → w.capacity ≡ j.capacity → meaning w ≡ Ok j
unfolding meaning
meaning_is w j t e p m i s c = rw (t, e, p, m, i, s, c) (sealed_is j)

pub jobs_read : JobsAreRead
unfolding job_of each
jobs_read ps includes tasks states j u c small is =
    let w = written_job ps includes tasks states in
    let texts = and_parts (list_all (λ (p : JobPolicy). is_utf8 p.text.now) ps && list_all (λ (i : Include). is_utf8 i.name.now && is_utf8 i.text.now) includes) (list_all (λ (t : LogTask). is_utf8 t.label.items) tasks) u in
    let named = and_parts (list_all (λ (p : JobPolicy). is_utf8 p.text.now) ps) (list_all (λ (i : Include). is_utf8 i.name.now && is_utf8 i.text.now) includes) texts.0 in
    let kept = (and_parts _ _ (and_parts _ _ j.limits).0).0 in
    let within : within_limits (written_sizes w) ≡ true = ap within_limits (sizes_kept ps includes tasks states j is) ∙ kept in
    let bounds = some_policies (written_sizes w) within in
    let count : length (map length w.policies) ≡ length ps = length-map w.policies length ∙ length-map ps (λ (p : JobPolicy). p.text.now) in
    let some : 1 ≤ length ps = omega (arith, bounds.0, count) in
    let few : length ps ≤ 16 = omega (arith, bounds.1, count) in
    let json = job_json ps includes tasks states named.0 named.1 c texts.1 some few (omega (arith, bounds.2)) in
    let there : each (task_of (length w.policies)) w.tasks ≡ Ok j.tasks =
    ap (λ n. each (task_of n) w.tasks) (length-map ps (λ (p : JobPolicy). p.text.now)) ∙ (tasks_mean ps tasks some c ∙ ap Ok (sym is.tasks)) in
    rw (le-leb (length (job_text ps includes tasks states)) 16777216 small, json, policies_shaped ps includes tasks states some, within)
    (meaning_is w j there (ap Ok (sym is.events)) (sym is.policies) (sym is.several) (sym is.includes) (sym is.states) (sym is.capacity))
